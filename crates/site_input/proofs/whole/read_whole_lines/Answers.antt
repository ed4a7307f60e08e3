use Rattle.std.proofs.Common.{refl, inl}
use Rattle.cable_definitions.specs.declared.site.SiteCode.TheVariants.{Form}
use Rattle.cable_definitions.specs.Text.{Whole, CutLine}
use Rattle.site_input.proofs.Forms.{ended_input, first_fault, refused_behind, text_piece, cut_piece, whole_is_some, cut_is_some}
use Rattle.site_input.proofs.whole.read_whole_lines.Goals as goal

pub returns-in-Err-clause-refused : goal.returns-in-Err-clause-refused
returns-in-Err-clause-refused g c = λ code place broken bytes e a.
    inl (broken, first_fault _ bytes code place broken c.requires.first (λ h. c.in-Err.ensures.refused bytes code place broken a h e))

pub returns-in-Ok-End-clause-whole : goal.returns-in-Ok-End-clause-whole
returns-in-Ok-End-clause-whole g c = ended_input c.read_site.new.lines c.next.new.self _ _ _ c.in-Ok.ensures.no_fault c.in-Ok-End.ensures.reads c.in-Ok-End.field-0-is

pub returns-in-Ok-Text-clause-refused : goal.returns-in-Ok-Text-clause-refused
returns-in-Ok-Text-clause-refused g c = λ code place broken bytes e a.
    refused_behind c.args.lines.now c.read_site.new.lines c.next.new.self (g.S.Source.state c.args.src.now) (g.S.Source.state c.read_site.new.src) (g.S.Source.state c.next.new.src) _ _ _ _ bytes code Form place broken (Whole _) c.in-Ok.ensures.valid c.in-Ok.ensures.text a c.in-Ok.ensures.no_fault c.in-Ok-Text.ensures.reads
    (text_piece _ _ c.in-Ok-Text.field-0-is) (whole_is_some _) refl c.in-Ok.ensures.lines c.requires.first c.in-Ok.ensures.few c.number.ensures e c.refused.ensures

pub returns-in-Err-NoNewline-clause-refused : goal.returns-in-Err-NoNewline-clause-refused
returns-in-Err-NoNewline-clause-refused g c = λ code place broken bytes e a.
    refused_behind c.args.lines.now c.read_site.new.lines c.next.new.self (g.S.Source.state c.args.src.now) (g.S.Source.state c.read_site.new.src) (g.S.Source.state c.next.new.src) _ _ _ _ bytes code Form place broken CutLine c.in-Ok.ensures.valid c.in-Ok.ensures.text a c.in-Ok.ensures.no_fault c.in-Err-NoNewline.ensures.reads
    (cut_piece c.next.new.self.text _ c.in-Err-NoNewline.field-0-is) cut_is_some refl c.in-Ok.ensures.lines c.requires.first c.in-Ok.ensures.few c.number-in-Err-NoNewline.ensures e c.refused-in-Err-NoNewline.ensures
