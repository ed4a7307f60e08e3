use Rattle.cable_definitions.specs.declared.command.Command.TheVariants.{Plan, Check, Site as SiteCommand, Judge, Report, Drill}
use Rattle.run_definitions.specs.Effect.{effect}
use Rattle.run_definitions.specs.Words.{texts}
use Rattle.cable_run.proofs.Endings.{command_ends}
use Rattle.cable_run.proofs.Headlines.{promise_of, bound_of, yes_of, lines_of, judgement_of, report_of, summary_of, ends_as}
use Rattle.cable_run.proofs.top.run.Goals as goal

pub returns-in-None-clause-headline : goal.returns-in-None-clause-headline
returns-in-None-clause-headline g c = λ n lanes bytes s built told site well. absurd (c.in-None.ensures.none (Plan n lanes) built)

pub returns-in-None-clause-yes : goal.returns-in-None-clause-yes
returns-in-None-clause-yes g c = λ bytes s claim built told yes well. absurd (c.in-None.ensures.none Check built)

pub returns-in-None-clause-lines : goal.returns-in-None-clause-lines
returns-in-None-clause-lines g c = λ bytes s built told front well. absurd (c.in-None.ensures.none SiteCommand built)

pub returns-in-None-clause-judgement : goal.returns-in-None-clause-judgement
returns-in-None-clause-judgement g c = λ bytes s cables built told judged well. absurd (c.in-None.ensures.none Judge built)

pub returns-in-None-clause-report : goal.returns-in-None-clause-report
returns-in-None-clause-report g c = λ bytes s claim built told yes well. absurd (c.in-None.ensures.none Report built)

pub returns-in-None-clause-drill : goal.returns-in-None-clause-drill
returns-in-None-clause-drill g c = λ k turbines n built well. absurd (c.in-None.ensures.none (Drill k turbines n) built)

pub returns-in-None-clause-bound : goal.returns-in-None-clause-bound
returns-in-None-clause-bound g c = λ bytes built told done. absurd (c.in-None.ensures.none Check built)

pub returns-in-Some-clause-ends : goal.returns-in-Some-clause-ends
returns-in-Some-clause-ends g c = λ other built.
    let input = effect (g.S.Source.state c.args.input.now) (g.S.Source.state c.obey.new.input) in
    let out = effect (g.O.Sink.state c.args.out.now) (g.O.Sink.state c.obey.new.out) in
    let note = effect (g.E.Sink.state c.args.note.now) (g.E.Sink.state c.end_of.new.note) in
    ends_as (texts c.args.words.now) c.in-Some.command other input out note c.end_of.result c.in-Some.ensures.command built
    (command_ends c.in-Some.command input out note c.obey.result c.end_of.result c.obey.ensures c.end_of.ensures)

pub returns-in-Some-clause-bound : goal.returns-in-Some-clause-bound
returns-in-Some-clause-bound g c = λ bytes built told done. bound_of bytes _ _ _ _ (returns-in-Some-clause-ends g c Check built) told done

pub returns-in-Some-clause-headline : goal.returns-in-Some-clause-headline
returns-in-Some-clause-headline g c = λ n lanes bytes s built told site well. promise_of n lanes bytes s _ _ _ _ (returns-in-Some-clause-ends g c (Plan n lanes) built) told site well

pub returns-in-Some-clause-yes : goal.returns-in-Some-clause-yes
returns-in-Some-clause-yes g c = λ bytes s claim built told yes well. yes_of bytes s claim _ _ _ _ (returns-in-Some-clause-ends g c Check built) told yes well

pub returns-in-Some-clause-lines : goal.returns-in-Some-clause-lines
returns-in-Some-clause-lines g c = λ bytes s built told front well. lines_of bytes s _ _ _ _ (returns-in-Some-clause-ends g c SiteCommand built) told front well

pub returns-in-Some-clause-judgement : goal.returns-in-Some-clause-judgement
returns-in-Some-clause-judgement g c = λ bytes s cables built told judged well. judgement_of bytes s cables _ _ _ _ (returns-in-Some-clause-ends g c Judge built) told judged well

pub returns-in-Some-clause-report : goal.returns-in-Some-clause-report
returns-in-Some-clause-report g c = λ bytes s claim built told yes well. report_of bytes s claim _ _ _ _ (returns-in-Some-clause-ends g c Report built) told yes well

pub returns-in-Some-clause-drill : goal.returns-in-Some-clause-drill
returns-in-Some-clause-drill g c = λ k turbines n built well. summary_of k turbines n _ _ _ _ (returns-in-Some-clause-ends g c (Drill k turbines n) built) well
