use Rattle.std.proofs.Common.{◌≡◌, Ok, Err, ap, sym, ◌∙◌, subst, arith}
use Rattle.std.specs.Prelude.{IfOk}
use Rattle.std.proofs.lemmas.Result.{err_from_is_err_and}
use Rattle.cable_definitions.specs.declared.site.Version.{Version}
use Rattle.cable_definitions.specs.Items.{Draft, TheEnd, empty_draft}
use Rattle.cable_text.specs.Lines.{ahead}
use Rattle.site_model.specs.declared.fault.SiteFault.TheVariants.{Refused}
use Rattle.site_text.specs.Reading.{versioned, begun, ReadsItemLine}
use Rattle.site_text.proofs.Running.{HasRead, ReadsSite, nothing_read, one_more, fewer_left, of_read, finished, read_fault, end_fault}
use Rattle.site_text.proofs.Counting.{behind_mode}
use Rattle.site_text.proofs.read.read_site.Given.{Over}
use Rattle.site_text.proofs.read.read_site.Goals.{After-finish}
use Rattle.site_text.proofs.read.read_site.Goals as goal

pub returns-in_err-version-clause-refused : goal.returns-in_err-version-clause-refused
returns-in_err-version-clause-refused g c = λ bytes code place broken is small refused.
    let before = ahead c.args.lines.now (g.S.Source.state c.args.src.now) in
    let old = c.args.lines.now.lines in
    let p = err_from_is_err_and c.from_residual.result c.from_residual.ensures.1 in
    let f : p.0 ≡ Refused code place broken = cc (p.1, refused) in
    read_fault empty_draft before before bytes old old code place broken is small (nothing_read before old) (c.in_err-version.ensures.refused code place broken (ap Err (sym p.2 ∙ f)))

pub returns-in_err-mode-clause-refused : goal.returns-in_err-mode-clause-refused
returns-in_err-mode-clause-refused g c = λ bytes code place broken is small refused.
    let before = ahead c.args.lines.now (g.S.Source.state c.args.src.now) in
    let mid = ahead c.read_version.new.lines (g.S.Source.state c.read_version.new.src) in
    let old = c.args.lines.now.lines in
    let now = c.read_version.new.lines.lines in
    let v = c.in_ok-version.version in
    let p = err_from_is_err_and c.from_residual-in_err-mode.result c.from_residual-in_err-mode.ensures.1 in
    let f : p.0 ≡ Refused code place broken = cc (p.1, refused) in
    let read = one_more empty_draft (versioned v) before before mid old old now (nothing_read before old) c.in_ok-version.ensures.reads in
    read_fault (versioned v) before mid bytes old now code place broken is small read (c.in_err-mode.ensures.refused code place broken (ap Err (sym p.2 ∙ f)))

pub items-init : goal.items-init
items-init g c =
    let before = ahead c.args.lines.now (g.S.Source.state c.args.src.now) in
    let mid = ahead c.read_version.new.lines (g.S.Source.state c.read_version.new.src) in
    let after = ahead c.read_mode.new.lines (g.S.Source.state c.read_mode.new.src) in
    let old = c.args.lines.now.lines in
    let now = c.read_version.new.lines.lines in
    let new = c.read_mode.new.lines.lines in
    let v = c.in_ok-version.version in
    let m = c.in_ok-mode.mode in
    let first = one_more empty_draft (versioned v) before before mid old old now (nothing_read before old) c.in_ok-version.ensures.reads in
    let second = one_more (versioned v) (begun v m) before mid after old now new first c.in_ok-mode.ensures.reads in
    let is : c.in_ok-builder.builder ≡ begun v m = c.in_ok-builder.ensures.builder in
    record {
      read = subst (λ (d : Draft). HasRead d before after old new) (sym is) second;
      version = sym (ap (λ (d : Draft). d.site.version) is);
      begun = (let s = ap (λ (d : Draft). d.stage) is in omega arith);
      no_fault = c.in_ok-mode.ensures.no_fault;
      count = omega arith;
    }

pub returns-in_err-read_item-clause-refused : goal.returns-in_err-read_item-clause-refused
returns-in_err-read_item-clause-refused g c = λ bytes code place broken is small refused.
    let before = ahead c.args.lines.now (g.S.Source.state c.args.src.now) in
    let mid = ahead c.items.lines (g.S.Source.state c.items.src) in
    let p = err_from_is_err_and c.from_residual-in_err-read_item.result c.from_residual-in_err-read_item.ensures.1 in
    let f : p.0 ≡ Refused code place broken = cc (p.1, refused) in
    read_fault c.items.builder before mid bytes c.args.lines.now.lines c.items.lines.lines code place broken is small c.items.invariant.read (c.in_err-read_item.ensures.refused code place broken (ap Err (sym p.2 ∙ f)))

pub items-smaller : goal.items-smaller
items-smaller g c =
    let before = ahead c.args.lines.now (g.S.Source.state c.args.src.now) in
    let mid = ahead c.items.lines (g.S.Source.state c.items.src) in
    let after = ahead c.read_item.new.lines (g.S.Source.state c.read_item.new.src) in
    fewer_left c.items.builder c.read_item.new.builder before mid after c.args.lines.now.lines c.items.lines.lines c.read_item.new.lines.lines c.items.invariant.read (c.in_ok-read_item.ensures.added (ap Ok c.in-Added.is))

pub items-preserved : goal.items-preserved
items-preserved g c =
    let before = ahead c.args.lines.now (g.S.Source.state c.args.src.now) in
    let mid = ahead c.items.lines (g.S.Source.state c.items.src) in
    let after = ahead c.read_item.new.lines (g.S.Source.state c.read_item.new.src) in
    let d = c.items.builder in
    let e = c.read_item.new.builder in
    let reads = c.in_ok-read_item.ensures.added (ap Ok c.in-Added.is) in
    let stays = behind_mode d e reads.item c.items.invariant.begun reads.takes.good reads.takes.adds in
    record {
      read = one_more d e before mid after c.args.lines.now.lines c.items.lines.lines c.read_item.new.lines.lines c.items.invariant.read reads;
      version = c.items.invariant.version ∙ stays.version;
      begun = stays.begun;
      no_fault = c.in_ok-read_item.ensures.no_fault;
      count = omega arith;
    }

-- the line of the end
end_line : (g : Over) (c : After-finish g) → ReadsItemLine c.items.builder.site.version TheEnd (ahead c.items.lines (g.S.Source.state c.items.src)) (ahead c.read_item.new.lines (g.S.Source.state c.read_item.new.src)) c.items.lines.lines c.read_item.new.lines.lines
end_line g c =
    let P = λ (v : Version). ReadsItemLine v TheEnd (ahead c.items.lines (g.S.Source.state c.items.src)) (ahead c.read_item.new.lines (g.S.Source.state c.read_item.new.src)) c.items.lines.lines c.read_item.new.lines.lines in
    subst P c.items.invariant.version (c.in_ok-read_item.ensures.ended (ap Ok c.in-Ended.is))

-- what holds of a site that was read
ended : (g : Over) (c : After-finish g) → IfOk c.finish.result (λ s. ReadsSite s (ahead c.args.lines.now (g.S.Source.state c.args.src.now)) (ahead c.read_item.new.lines (g.S.Source.state c.read_item.new.src)) c.args.lines.now.lines c.read_item.new.lines.lines)
ended g c =
    let before = ahead c.args.lines.now (g.S.Source.state c.args.src.now) in
    let mid = ahead c.items.lines (g.S.Source.state c.items.src) in
    let after = ahead c.read_item.new.lines (g.S.Source.state c.read_item.new.src) in
    finished c.finish.result c.items.builder c.read_item.new.builder before mid after c.args.lines.now.lines c.items.lines.lines c.read_item.new.lines.lines (c.in_ok-read_item.ensures.unchanged (ap Ok c.in-Ended.is)) c.items.invariant.read (end_line g c) c.finish.ensures.good c.finish.ensures.site

pub returns-in-Ended-clause-text : goal.returns-in-Ended-clause-text
returns-in-Ended-clause-text g c = of_read c.finish.result (λ s h. h.text) (ended g c)

pub returns-in-Ended-clause-lines : goal.returns-in-Ended-clause-lines
returns-in-Ended-clause-lines g c = of_read c.finish.result (λ s h. h.lines) (ended g c)

pub returns-in-Ended-clause-few : goal.returns-in-Ended-clause-few
returns-in-Ended-clause-few g c = of_read c.finish.result (λ s h. h.few) (ended g c)

pub returns-in-Ended-clause-refused : goal.returns-in-Ended-clause-refused
returns-in-Ended-clause-refused g c = λ bytes code place broken is small refused.
    let before = ahead c.args.lines.now (g.S.Source.state c.args.src.now) in
    let mid = ahead c.items.lines (g.S.Source.state c.items.src) in
    let after = ahead c.read_item.new.lines (g.S.Source.state c.read_item.new.src) in
    let at = ap Ok c.in-Ended.is in
    end_fault c.items.builder c.read_item.new.builder before mid after bytes c.args.lines.now.lines c.items.lines.lines c.read_item.new.lines.lines c.number.result code place broken is small
    (c.in_ok-read_item.ensures.unchanged at) c.items.invariant.read (end_line g c) (c.number.ensures ∙ c.in_ok-read_item.ensures.number at) (c.finish.ensures.refused code place broken refused)
