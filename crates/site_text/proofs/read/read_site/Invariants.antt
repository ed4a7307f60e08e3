use Rattle.std.proofs.Common.{◌≡◌, ◌≤◌, ◌-◌, None}
use Rattle.cable_text.specs.Lines.{ahead}
use Rattle.site_text.proofs.Counting.{lines_of}
use Rattle.site_text.proofs.Running.{HasRead}
use Rattle.site_text.proofs.read.read_site.Given as goal

abbrev pub invariant-items : goal.invariant-items
invariant-items g l = record {
  read : HasRead l.builder (ahead l.fn.lines (g.S.Source.state l.fn.src)) (ahead l.lines (g.S.Source.state l.src)) l.fn.lines.lines l.lines.lines;
  version : l.version ≡ l.builder.site.version;
  begun : 2 ≤ l.builder.stage;
  no_fault : l.lines.fault ≡ None;
  count : (g.S.Source.state l.fn.src).faults ≤ (g.S.Source.state l.src).faults;
}

abbrev pub decreases-items : goal.decreases-items
decreases-items g l = 34000 - lines_of l.builder
