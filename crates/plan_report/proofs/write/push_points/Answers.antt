use Rattle.std.proofs.Common.{◌≡◌, ◌∙◌, ℕ, List, length, get_or, ap, sym, arith}
use Rattle.cable_definitions.specs.declared.site.Point.{Point}
use Rattle.cable_definitions.specs.Site.{Site}
use Rattle.cable_definitions.specs.Report.{report_point}
use Rattle.cable_text.proofs.Writers.{written_as}
use Rattle.plan_report.proofs.Numbering.{wrote_more_numbered, wrote_part_numbered, all_numbered}
use Rattle.plan_report.proofs.write.push_points.Goals as goal

pub returns-in_err-push_point : goal.returns-in_err-push_point
returns-in_err-push_point g c =
    let read = c.points-points.ensures.value ∙ ap (λ (s : Site). s.points) c.site-site.ensures.value in
    let e = ap (length {A = Point}) read in
    let d = c.index-points-p.result in
    let same : get_or c.args.flows.now.site.points c.loop-p.p d ≡ d = ap (λ (xs : List Point). get_or xs c.loop-p.p d) (sym read) ∙ sym c.index-points-p.is in
    wrote_part_numbered (λ (k : ℕ) (x : Point). report_point c.args.flows.now.site c.args.flows.now.cables k x.name x.kind) c.args.flows.now.site.points c.loop-p.p d (omega (arith, e)) c.from_residual.ensures.0 c.loop-p.invariant
    (written_as c.in_err-push_point.ensures (ap (λ (x : Point). report_point c.args.flows.now.site c.args.flows.now.cables c.loop-p.p x.name x.kind) same))

pub loop-p-preserved : goal.loop-p-preserved
loop-p-preserved g c =
    let read = c.points-points.ensures.value ∙ ap (λ (s : Site). s.points) c.site-site.ensures.value in
    let e = ap (length {A = Point}) read in
    let d = c.index-points-p.result in
    let same : get_or c.args.flows.now.site.points c.loop-p.p d ≡ d = ap (λ (xs : List Point). get_or xs c.loop-p.p d) (sym read) ∙ sym c.index-points-p.is in
    wrote_more_numbered (λ (k : ℕ) (x : Point). report_point c.args.flows.now.site c.args.flows.now.cables k x.name x.kind) c.args.flows.now.site.points c.loop-p.p d (omega (arith, e)) c.loop-p.invariant
    (written_as c.in_ok-push_point.ensures (ap (λ (x : Point). report_point c.args.flows.now.site c.args.flows.now.cables c.loop-p.p x.name x.kind) same))

pub returns : goal.returns
returns g c =
    let read = c.points-points.ensures.value ∙ ap (λ (s : Site). s.points) c.site-site.ensures.value in
    let e = ap (length {A = Point}) read in
    written_as c.loop-p.invariant (all_numbered (λ (q : ℕ × Point). report_point c.args.flows.now.site c.args.flows.now.cables q.0 q.1.name q.1.kind) c.args.flows.now.site.points c.loop-p.p (omega (arith, e)))
