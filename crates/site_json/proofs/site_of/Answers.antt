use Rattle.std.proofs.Common.{sym, ◌∙◌, subst}
use Rattle.std.proofs.lemmas.Result.{err_from_is_err_and}
use Rattle.serde_json.specs.View.{view}
use Rattle.cable_definitions.specs.declared.site.SiteCode.TheVariants.{Shape}
use Rattle.cable_definitions.specs.Items.{Draft, TheEnd}
use Rattle.site_json.specs.Faults.{LeadsOn, Fails, listed}
use Rattle.site_json.proofs.Refusing.{passed_on, refused_is, Fails-built}
use Rattle.site_json.proofs.Wholes.{Fails-mode, Fails-lists, Fails-end, Gives-all}
use Rattle.site_json.proofs.site_of.Goals as goal

pub returns-in_default-clause-refused : goal.returns-in_default-clause-refused
returns-in_default-clause-refused c = λ code place broken e.
    let r = refused_is c.refused-in_default.result Shape code 2 place broken c.refused-in_default.ensures e in
    Fails-mode (view c.args.tree.now) c.in-Ok.version code place broken c.in-Ok.ensures.item c.in-Ok.ensures.latest (sym c.mode_of.ensures ∙ c.in_default.is) r.0 (sym r.1) r.2

pub returns-in_err-placed-clause-refused : goal.returns-in_err-placed-clause-refused
returns-in_err-placed-clause-refused c = λ code place broken e.
    let d = view c.args.tree.now in
    let p = err_from_is_err_and c.from_residual.result c.from_residual.ensures.1 in
    let fault = c.in_err-placed.ensures.refused code place broken (passed_on c.from_residual.result p.0 c.in_err-placed.field-0.0 _ p.1 p.2 e) in
    Fails-lists d c.in-Ok.version c.in-Some.mode code place broken c.in-Ok.ensures.item c.in-Ok.ensures.latest (sym c.mode_of.ensures ∙ c.in-Some.is)
    (subst (λ (b : Draft). Fails b 2 (listed c.in-Ok.version d) code place broken) c.in-Ok-new.ensures fault)

pub returns-in-Ok-build-clause-site : goal.returns-in-Ok-build-clause-site
returns-in-Ok-build-clause-site c =
    let d = view c.args.tree.now in
    let f = c.add_lists.new.builder in
    let leads = subst (λ (b : Draft). LeadsOn b 2 (listed c.in-Ok.version d) f c.in_ok-placed.placed) c.in-Ok-new.ensures c.in_ok-placed.ensures.leads in
    Gives-all d c.in-Ok.version c.in-Some.mode f c.in_ok-placed.placed c.in-Ok-build.site c.in-Ok.ensures.item c.in-Ok.ensures.latest (sym c.mode_of.ensures ∙ c.in-Some.is) leads c.in_ok-placed.ensures.takes c.in-Ok-build.ensures.good c.in-Ok-build.ensures.site

pub returns-in-Err-build-clause-refused : goal.returns-in-Err-build-clause-refused
returns-in-Err-build-clause-refused c = λ code place broken e.
    let d = view c.args.tree.now in
    let f = c.add_lists.new.builder in
    let leads = subst (λ (b : Draft). LeadsOn b 2 (listed c.in-Ok.version d) f c.in_ok-placed.placed) c.in-Ok-new.ensures c.in_ok-placed.ensures.leads in
    Fails-end d c.in-Ok.version c.in-Some.mode f c.in_ok-placed.placed code place broken c.in-Ok.ensures.item c.in-Ok.ensures.latest (sym c.mode_of.ensures ∙ c.in-Some.is) leads
    (Fails-built f c.in_ok-placed.placed TheEnd c.in-Err-build.fault c.fault_at.result code place broken c.in-Err-build.ensures.refused c.fault_at.ensures e)
