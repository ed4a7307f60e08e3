use Rattle.std.proofs.Common.{sym, ◌∙◌}
use Rattle.std.proofs.lemmas.Bool.{false≢true}
use Rattle.serde_json.specs.View.{view}
use Rattle.cable_definitions.specs.declared.site.SiteCode.TheVariants.{TooLong, Form, Shape}
use Rattle.run_definitions.specs.Json.{raw_items}
use Rattle.run_definitions.specs.Bytes.{too_long, unreadable, other_top, of_items}
use Rattle.site_json.proofs.Leading.{IsItemFault-all}
use Rattle.site_json.proofs.Refusing.{refused_is}
use Rattle.site_json.proofs.Readings.{IsJsonFault-said, not_tree}
use Rattle.site_json.proofs.read_json.Goals as goal

pub returns-then-bytes-gt-MOST_BYTES-clause-refused : goal.returns-then-bytes-gt-MOST_BYTES-clause-refused
returns-then-bytes-gt-MOST_BYTES-clause-refused c = λ code place broken e.
    let r = refused_is c.refused.result TooLong code 0 place broken c.refused.ensures e in
    (IsJsonFault-said c.args.bytes.now TooLong code 0 place (too_long c.if-bytes-gt-MOST_BYTES.true) r.0 r.1, r.2)

pub returns-in-Err-clause-refused : goal.returns-in-Err-clause-refused
returns-in-Err-clause-refused c = λ code place broken e.
    let r = refused_is c.refused-in-Err.result Form code 0 place broken c.refused-in-Err.ensures e in
    let refused = c.in-Err.ensures.err (λ memory. false≢true (sym c.if-is_memory.false ∙ c.is_memory.ensures.1 memory)) in
    (IsJsonFault-said c.args.bytes.now Form code 0 place (unreadable c.if-bytes-gt-MOST_BYTES.false (not_tree c.args.bytes.now refused)) r.0 r.1, r.2)

pub returns-then-not-is_top-clause-refused : goal.returns-then-not-is_top-clause-refused
returns-then-not-is_top-clause-refused c = λ code place broken e.
    let r = refused_is c.refused-then-not-is_top.result Shape code 1 place broken c.refused-then-not-is_top.ensures e in
    let other = sym c.is_top.ensures ∙ c.if-not-is_top.true in
    (IsJsonFault-said c.args.bytes.now Shape code 1 place (other_top (view c.in-Ok.tree) c.if-bytes-gt-MOST_BYTES.false c.in-Ok.ensures.ok (λ top. false≢true (sym other ∙ top))) r.0 r.1, r.2)

pub returns-clause-refused : goal.returns-clause-refused
returns-clause-refused c = λ code place broken e.
    let fault = c.site_of.ensures.refused code place broken e in
    (of_items (view c.in-Ok.tree) code place c.if-bytes-gt-MOST_BYTES.false c.in-Ok.ensures.ok (sym c.is_top.ensures ∙ c.if-not-is_top.false) (IsItemFault-all (raw_items (view c.in-Ok.tree)) code place broken fault), fault.unbroken)
