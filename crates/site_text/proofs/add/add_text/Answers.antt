use Rattle.site_text.specs.Item.{item_held}
use Rattle.site_text.proofs.Added.{not_end, text_added, text_refused, text_not_ended}
use Rattle.site_text.proofs.add.add_text.Goals as goal

pub returns-in_default : goal.returns-in_default
returns-in_default c =
    let r = c.add_item.result in
    let d = c.args.builder.now in
    let e = c.add_item.new.builder in
    let i = c.item_of.ensures in
    let held = item_held c.item_of.result in
    record {
      added = text_added r d e c.args.version c.args.text.now held i.raw i.held_is c.requires.version i.item_of c.add_item.ensures (not_end c.item_of.result c.in_default.not-End);
      ended = λ is. absurd (text_not_ended r d e c.args.version c.args.text.now held i.raw i.held_is c.requires.version i.item_of c.add_item.ensures is);
      unchanged = λ is. absurd (text_not_ended r d e c.args.version c.args.text.now held i.raw i.held_is c.requires.version i.item_of c.add_item.ensures is);
      refused = text_refused r d e c.args.version c.args.text.now held i.raw i.held_is c.requires.version i.item_of c.add_item.ensures;
    }
