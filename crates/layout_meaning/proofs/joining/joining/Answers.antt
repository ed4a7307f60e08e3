use Rattle.std.proofs.Common.{List, subst}
use Rattle.cable_definitions.specs.declared.cable.Cable.{Cable}
use Rattle.cable_definitions.specs.Part.{IsGrown, IsTarget, IsFirstBrokenOfPart}
use Rattle.layout_meaning.specs.Joining.{IsUnjoined}
use Rattle.layout_meaning.proofs.Joinings.{grown_joins, room_for, candidate_from, candidate_to}
use Rattle.layout_meaning.proofs.joining.joining.Goals as goal

pub grown_by-typed-requires-clause-few : goal.grown_by-typed-requires-clause-few
grown_by-typed-requires-clause-few c =
    let candidate = c.is_candidate.ensures.0 c.if-not-is_candidate.false in
    let unjoined = subst (λ (part : List Cable). IsUnjoined c.args.site.now part c.args.from) c.new-outgoing.ensures (c.is_unjoined.ensures.0 c.if-not-is_unjoined.false) in
    room_for c.args.site.now c.args.part.now c.args.from c.points-valid.ensures.valid c.requires.grown (candidate_from c.args.site.now c.args.from c.args.to candidate) unjoined.not_joined

pub grown_by-typed-requires-clause-points : goal.grown_by-typed-requires-clause-points
grown_by-typed-requires-clause-points c = grown_joins c.args.site.now c.args.part.now c.requires.grown

pub grown_by-typed-requires-clause-from : goal.grown_by-typed-requires-clause-from
grown_by-typed-requires-clause-from c = candidate_from c.args.site.now c.args.from c.args.to (c.is_candidate.ensures.0 c.if-not-is_candidate.false)

pub grown_by-typed-requires-clause-to : goal.grown_by-typed-requires-clause-to
grown_by-typed-requires-clause-to c = candidate_to c.args.site.now c.args.from c.args.to (c.is_candidate.ensures.0 c.if-not-is_candidate.false)

pub returns-in-Some : goal.returns-in-Some
returns-in-Some c = record {
  free = record {
    unjoined = subst (λ (part : List Cable). IsUnjoined c.args.site.now part c.args.from) c.new-outgoing.ensures (c.is_unjoined.ensures.0 c.if-not-is_unjoined.false);
    target = subst (λ (part : List Cable). IsTarget c.args.site.now part c.args.to) c.new-outgoing.ensures (c.is_target.ensures.0 c.if-not-is_target.false);
    candidate = c.is_candidate.ensures.0 c.if-not-is_candidate.false;
  };
  typed = c.grown_by-typed.result;
  cheapest = c.grown_by-typed.ensures;
  broken = subst (λ (typed : List Cable). IsFirstBrokenOfPart c.args.site.now typed c.in-Some.breach.rule c.in-Some.breach.a c.in-Some.breach.b) c.as_slice.ensures.value c.in-Some.ensures.first;
}

pub returns-in-None : goal.returns-in-None
returns-in-None c = record {
  free = record {
    unjoined = subst (λ (part : List Cable). IsUnjoined c.args.site.now part c.args.from) c.new-outgoing.ensures (c.is_unjoined.ensures.0 c.if-not-is_unjoined.false);
    target = subst (λ (part : List Cable). IsTarget c.args.site.now part c.args.to) c.new-outgoing.ensures (c.is_target.ensures.0 c.if-not-is_target.false);
    candidate = c.is_candidate.ensures.0 c.if-not-is_candidate.false;
  };
  cheapest = c.grown_by-typed.ensures;
  grown = subst (IsGrown c.args.site.now) c.as_slice.ensures.value c.in-None.ensures.none;
}
