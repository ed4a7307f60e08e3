-- Sites, documents, reports, answers and notes, byte by byte.
use Rattle.std.proofs.Common.{◌≡◌, List, [], ◌∷◌, pos, neg_ℤ, refl}
use Rattle.std.specs.Prelude.{codes}
use Rattle.std.specs.Fmt.{digits}
use Rattle.cable_definitions.specs.declared.row.RowKind.TheVariants.{Out, Cut}
use Rattle.cable_definitions.specs.declared.row.Act.TheVariants.{Split, Stop, Dead, Full}
use Rattle.cable_definitions.specs.declared.row.Why.TheVariants.{Row, Ceiling}
use Rattle.cable_definitions.specs.declared.claim.Cause.TheVariants.{Verdict}
use Rattle.cable_definitions.specs.declared.claim.Claim.TheVariants.{Optimal, Gap, Partial}
use Rattle.cable_definitions.specs.declared.cable.Rule.TheVariants.{Clash, Overload}
use Rattle.cable_definitions.specs.declared.site.SiteCode.TheVariants.{Form}
use Rattle.cable_definitions.specs.declared.tight.TightRule.TheVariants.{Capacity}
use Rattle.cable_definitions.specs.Plane.{length_of, root_bits}
use Rattle.cable_definitions.specs.Walk.{most_steps}
use Rattle.cable_definitions.specs.Tree.{Item, RowItem, WorkItem}
use Rattle.cable_definitions.specs.Text.{number, site_lines, document_text, claim_line, act_line}
use Rattle.cable_definitions.specs.Report.{report_text}
use Rattle.cable_definitions.specs.Answers.{yes_line, broken_words, broken_line, closed_lines, carried_line, not_tighter_note, site_note, document_note, usage_note}
use Rattle.cable_definitions.proofs.Sites.{cable, two_points, crossing, around, fork, branched, stringed}

-- a number below 0
pub below_zero : number (neg_ℤ (pos 300)) ≡ codes "-300"
unfolding digits
below_zero = refl

-- a site with each kind of line
pub lines_around : site_lines around ≡ codes "site 1\nmode tree\ntype 400 1\nsubstation S 0 0 4 10000\nturbine A 0 1000 100\nbend K 200 500\nobstacle 4\ncorner -100 400\ncorner 100 400\ncorner 100 600\ncorner -100 600\nclosed S A\ncharge K A 7\nend site\n"
unfolding digits
lines_around = refl

-- ---- whole documents: weighted rows at the root, and a split of the only arc
abbrev fork_items : List Item
fork_items =
    RowItem (record { kind = Out; members = 1 ∷ [] }) ∷ RowItem (record { kind = Out; members = 2 ∷ [] }) ∷ RowItem (record { kind = Out; members = 3 ∷ [] })
    ∷ RowItem (record { kind = Cut; members = 1 ∷ 2 ∷ 3 ∷ [] })
    ∷ WorkItem 1 ((0, pos 524288000) ∷ (1, pos 524288000) ∷ (2, pos 524288000) ∷ (3, pos 524288000) ∷ []) Stop ∷ []

pub weighted_document : document_text fork 10 fork_items branched (Optimal 2000) ≡ codes "site 1\nmode tree\ntype 400 1\nsubstation S 0 0 4 10000\nturbine A 0 1000 100\nturbine B -300 1400 100\nturbine C 300 1400 100\nend site\nbudget 10\nrow out 1\nrow out 2\nrow out 3\nrow cut 1 2 3\nwork 1 4\nby 0 524288000\nby 1 524288000\nby 2 524288000\nby 3 524288000\nstop\nlayout 3\ncable A S 0\ncable B A 0\ncable C A 0\noptimal 2000\nend document\n"
unfolding digits
weighted_document = refl

abbrev split_items : List Item
split_items = RowItem (record { kind = Out; members = 1 ∷ [] }) ∷ WorkItem 1 [] (Split 0) ∷ WorkItem 2 [] Full ∷ WorkItem 3 [] (Dead (Row 0)) ∷ []

pub split_document : document_text two_points 8191 split_items (cable 1 0 0 ∷ []) (Optimal 50000) ≡ codes "site 1\nmode tree\ntype 400 100\nsubstation S 0 0 4 10000\nturbine A 300 400 100\nend site\nbudget 8191\nrow out 1\nwork 1 0\nsplit 0\nwork 2 0\nfull\nwork 3 0\ndead row 0\nlayout 1\ncable A S 0\noptimal 50000\nend document\n"
unfolding digits
split_document = refl

-- ---- single lines
pub gap_line : claim_line fork (Gap 2000 1500) ≡ codes "gap 2000 1500\n"
unfolding digits
gap_line = refl

pub open_line : claim_line fork (Partial 1500 1) ≡ codes "open 1500 stuck A\n"
unfolding digits
open_line = refl

pub ceiling_line : act_line (Dead Ceiling) ≡ codes "dead ceiling\n"
ceiling_line = refl

-- ---- reports, answers and notes
pub report_of_one : report_text two_points (cable 1 0 0 ∷ []) (Optimal 50000) ≡ codes "mode tree\ncable A                S                 0      500      100               50000\ntype 0 cables 1 length 500 cost 50000\nsubstation S feeders 1 of 4 power 100 of 10000\noptimal 50000\n"
unfolding digits most_steps length_of root_bits
report_of_one = refl

pub yes_to_gap : yes_line (Gap 2000 1500) ≡ codes "yes cost 2000 bound 1500\n"
unfolding digits
yes_to_gap = refl

pub clash_by_names : broken_line crossing Clash 2 3 ≡ codes "broken Clash A B\n"
clash_by_names = refl

pub closed_rings : closed_lines fork stringed (cable 3 0 0 ∷ []) 3532 3100 ≡ codes "cable A S 0\ncable B A 0\ncable C B 0\nclosing C S 0\nrings cost 3532 bound 3100\n"
unfolding digits
closed_rings = refl

pub carried_bound : carried_line 2000 (broken_words fork Overload 1 0) ≡ codes "carried bound 2000 broken Overload A S\n"
unfolding digits
carried_bound = refl

pub higher_capacity : not_tighter_note Capacity 0 0 400 500 ≡ codes "not tighter: Capacity 0 0 400 500\n"
unfolding digits
higher_capacity = refl

pub no_site : site_note Form 0 ≡ codes "site refused: Form at 0\n"
unfolding digits
no_site = refl

pub no_document : document_note Verdict 22 ≡ codes "document refused: Verdict at line 22\n"
unfolding digits
no_document = refl

pub usage : usage_note ≡ codes "usage: plan N [LANES], check, site, judge, report, drill K TURBINES N\n"
usage = refl
