use Rattle.std.proofs.Common.{ℕ, ℤ, List, sym, subst, arith, rules}
use Rattle.std.proofs.lemmas.Int.{ints}
use Rattle.cable_definitions.specs.Choice.{AreLawful, IsValue}
use Rattle.search_core.proofs.worth.improved_weights.Goals as goal

pub returns-clause-raised : goal.returns-clause-raised
returns-clause-raised c =
    let worth = c.in_ok-start.ensures.worth in
    record {
      lawful = c.in_ok-improved.ensures.lawful;
      few = c.as_slice-few.ensures.at_most;
      no_lift = c.in_ok-improved.ensures.no_lift;
      is_value = search rules;
      small = search rules;
      one_share_each = c.in_ok-improved.ensures.shares;
      beats = record {
        turbines = c.weigh_turbines.new.weights;
        are_turbines = c.weigh_turbines.ensures.weights;
        low = worth.before;
        is_low = worth.is_before;
        at_least = λ value is.
            let first = worth.at_least in
            let then = c.in_ok-improved.ensures.value worth.after value worth.is_after is in
            omega (arith, ints, first, then);
      };
    }

pub returns-clause-last : goal.returns-clause-last
returns-clause-last c = λ lawful.
    let copy = c.in_ok-found.ensures in
    let worth = c.in_ok-start.ensures.found (subst (AreLawful c.args.pool.now) (sym copy) lawful) in
    record {
      low = worth.before;
      is_low = subst (λ (ws : List (ℕ × ℤ)). IsValue c.args.site.now c.args.arcs.now c.args.pool.now c.args.decisions.now ws worth.before) copy worth.is_before;
      at_least = λ value is.
          let first = worth.at_least in
          let then = c.in_ok-improved.ensures.value worth.after value worth.is_after is in
          omega (arith, ints, first, then);
    }
