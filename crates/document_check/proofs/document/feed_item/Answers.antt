use Rattle.proof_text.specs.declared.items.Next.{Next}
use Rattle.cable_text.specs.Lines.{ahead}
use Rattle.document_check.proofs.Stages.{pass_first, row_there, fed_row, refused_row, work_there, fed_work, refused_work, read_count, refused_item}
use Rattle.document_check.proofs.document.feed_item.Goals as goal

pub returns-in-Ok-clause-fed : goal.returns-in-Ok-clause-fed
returns-in-Ok-clause-fed g c =
    let before = ahead c.args.lines.now (g.S.Source.state c.args.src.now) in
    let after = ahead c.next.new.lines (g.S.Source.state c.next.new.src) in
    let row = row_there before after c.args.lines.now.lines c.next.new.lines.lines c.next.new.self c.in-Ok-Row.field-0 c.kind.result c.members.result.now c.in-Ok-Row.field-0-is c.kind.ensures c.members.ensures.value
    c.args.reader.now.fault c.requires.readable c.in-Ok-Row.ensures.reads in
    fed_row c.args.checker.now c.feed_row.new.self before after c.args.lines.now.lines c.next.new.lines.lines c.kind.result c.members.result.now row c.in-Ok.ensures.accepted c.in-Ok.ensures.no_cause c.in-Ok.ensures.stays

pub returns-in-Err-feed_row-clause-refused : goal.returns-in-Err-feed_row-clause-refused
returns-in-Err-feed_row-clause-refused g c =
    let before = ahead c.args.lines.now (g.S.Source.state c.args.src.now) in
    let after = ahead c.next.new.lines (g.S.Source.state c.next.new.src) in
    let row = row_there before after c.args.lines.now.lines c.next.new.lines.lines c.next.new.self c.in-Ok-Row.field-0 c.kind.result c.members.result.now c.in-Ok-Row.field-0-is c.kind.ensures c.members.ensures.value
    c.args.reader.now.fault c.requires.readable c.in-Ok-Row.ensures.reads in
    refused_row c.args.checker.now c.feed_row.new.self before after c.args.lines.now.lines c.next.new.lines.lines c.next.new.lines.number c.number.result c.kind.result c.members.result.now c.in-Err-feed_row.refusal row c.in-Ok-Row.ensures.number
    c.number.ensures (c.in-Err-feed_row.ensures.refused c.requires.open)

pub returns-in-Ok-feed_work-clause-fed : goal.returns-in-Ok-feed_work-clause-fed
returns-in-Ok-feed_work-clause-fed g c =
    let before = ahead c.args.lines.now (g.S.Source.state c.args.src.now) in
    let after = ahead c.next.new.lines (g.S.Source.state c.next.new.src) in
    let read = work_there before after c.args.lines.now.lines c.next.new.lines.lines c.next.new.self c.in-Ok-Work.field-0 c.work.result.now c.in-Ok-Work.field-0-is c.work.ensures
    c.args.reader.now.fault c.requires.readable c.in-Ok-Work.ensures.reads in
    fed_work c.args.checker.now c.feed_work.new.self before after c.args.lines.now.lines c.next.new.lines.lines c.work.result.now read c.in-Ok-feed_work.ensures.accepted c.in-Ok-feed_work.ensures.no_cause c.in-Ok-feed_work.ensures.stays

pub returns-in-Err-feed_work-clause-refused : goal.returns-in-Err-feed_work-clause-refused
returns-in-Err-feed_work-clause-refused g c =
    let before = ahead c.args.lines.now (g.S.Source.state c.args.src.now) in
    let after = ahead c.next.new.lines (g.S.Source.state c.next.new.src) in
    let read = work_there before after c.args.lines.now.lines c.next.new.lines.lines c.next.new.self c.in-Ok-Work.field-0 c.work.result.now c.in-Ok-Work.field-0-is c.work.ensures
    c.args.reader.now.fault c.requires.readable c.in-Ok-Work.ensures.reads in
    refused_work c.args.checker.now c.feed_work.new.self before after c.args.lines.now.lines c.next.new.lines.lines c.next.new.lines.number c.number-in-Ok-Work.result c.work.result.now c.in-Err-feed_work.refusal read c.in-Ok-Work.ensures.number
    c.number-in-Ok-Work.ensures (c.in-Err-feed_work.ensures.refused c.requires.open)

pub returns-in-Ok-Layout-clause-fed : goal.returns-in-Ok-Layout-clause-fed
returns-in-Ok-Layout-clause-fed g c =
    read_count c.args.checker.now (ahead c.args.lines.now (g.S.Source.state c.args.src.now)) (ahead c.next.new.lines (g.S.Source.state c.next.new.src)) c.args.lines.now.lines c.next.new.lines.lines c.next.new.self
    c.in-Ok-Layout.field-0 c.in-Ok-Layout.count c.in-Ok-Layout.field-0-is c.args.reader.now.fault c.requires.readable c.in-Ok-Layout.ensures.reads

pub returns-in-Err-clause-refused : goal.returns-in-Err-clause-refused
returns-in-Err-clause-refused g c =
    pass_first Next c.args.reader.now.fault c.in-Err.fault c.reading_fault.result c.requires.readable c.reading_fault.ensures _ _
    (λ refusal d. refused_item c.args.checker.now (ahead c.args.lines.now (g.S.Source.state c.args.src.now)) c.args.lines.now.lines refusal d)
    c.in-Err.ensures.refused
