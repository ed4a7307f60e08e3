use Rattle.std.proofs.Common.{◌≡◌, ℕ, pos, arith}
use Rattle.drill_site.proofs.Welcome.{OnOk-more}
use Rattle.drill_site.proofs.Drawing.{some_length, apart_450, apart_950, apart_more, length_gained, GainsBends-four}
use Rattle.drill_site.proofs.drill.add_bends.Goals as goal

-- coordinates that differ
apart_x : (m n : ℕ) → (m ≡ n → ⊥) → pos m ≡ pos n → ⊥
apart_x m n ne e = ne (cc)

pub add_point-requires-clause-few : goal.add_point-requires-clause-few
add_point-requires-clause-few c = let l = some_length c.args.builder.now.site.points c.requires.first in omega (arith, l)

pub add_point-requires-clause-apart : goal.add_point-requires-clause-apart
add_point-requires-clause-apart c = apart_450 48 450 c.args.builder.now.site.points c.requires.first

pub add_point-requires-2-clause-few : goal.add_point-requires-2-clause-few
add_point-requires-2-clause-few c =
    let l = some_length c.args.builder.now.site.points c.requires.first in
    let l0 = length_gained c.args.builder.now c.add_point.new.builder _ _ _ _ c.in_ok-add_point.ensures.gains in
    omega (arith, l, l0)

pub add_point-requires-2-clause-apart : goal.add_point-requires-2-clause-apart
add_point-requires-2-clause-apart c =
    apart_more c.args.builder.now c.add_point.new.builder 48 49 (pos 4450) (pos 450) (pos 4950) (pos 450) c.in_ok-add_point.ensures.gains (apart_950 49 450 c.args.builder.now.site.points c.requires.first) (λ e. omega arith) (λ e. apart_x 4450 4950 (λ f. omega arith) e.0)

pub add_point-requires-3-clause-few : goal.add_point-requires-3-clause-few
add_point-requires-3-clause-few c =
    let l = some_length c.args.builder.now.site.points c.requires.first in
    let l0 = length_gained c.args.builder.now c.add_point.new.builder _ _ _ _ c.in_ok-add_point.ensures.gains in
    let l1 = length_gained c.add_point.new.builder c.add_point-2.new.builder _ _ _ _ c.in_ok-add_point-2.ensures.gains in
    omega (arith, l, l0, l1)

pub add_point-requires-3-clause-apart : goal.add_point-requires-3-clause-apart
add_point-requires-3-clause-apart c =
    let a0 = apart_more c.args.builder.now c.add_point.new.builder 48 50 (pos 4450) (pos 450) (pos 4450) (pos 950) c.in_ok-add_point.ensures.gains (apart_450 50 950 c.args.builder.now.site.points c.requires.first) (λ e. omega arith) (λ e. apart_x 450 950 (λ f. omega arith) e.1) in
    apart_more c.add_point.new.builder c.add_point-2.new.builder 49 50 (pos 4950) (pos 450) (pos 4450) (pos 950) c.in_ok-add_point-2.ensures.gains a0 (λ e. omega arith) (λ e. apart_x 4950 4450 (λ f. omega arith) e.0)

pub add_point-requires-4-clause-few : goal.add_point-requires-4-clause-few
add_point-requires-4-clause-few c =
    let l = some_length c.args.builder.now.site.points c.requires.first in
    let l0 = length_gained c.args.builder.now c.add_point.new.builder _ _ _ _ c.in_ok-add_point.ensures.gains in
    let l1 = length_gained c.add_point.new.builder c.add_point-2.new.builder _ _ _ _ c.in_ok-add_point-2.ensures.gains in
    let l2 = length_gained c.add_point-2.new.builder c.add_point-3.new.builder _ _ _ _ c.in_ok-add_point-3.ensures.gains in
    omega (arith, l, l0, l1, l2)

pub add_point-requires-4-clause-apart : goal.add_point-requires-4-clause-apart
add_point-requires-4-clause-apart c =
    let a0 = apart_more c.args.builder.now c.add_point.new.builder 48 51 (pos 4450) (pos 450) (pos 4950) (pos 950) c.in_ok-add_point.ensures.gains (apart_950 51 950 c.args.builder.now.site.points c.requires.first) (λ e. omega arith) (λ e. apart_x 4450 4950 (λ f. omega arith) e.0) in
    let a1 = apart_more c.add_point.new.builder c.add_point-2.new.builder 49 51 (pos 4950) (pos 450) (pos 4950) (pos 950) c.in_ok-add_point-2.ensures.gains a0 (λ e. omega arith) (λ e. apart_x 450 950 (λ f. omega arith) e.1) in
    apart_more c.add_point-2.new.builder c.add_point-3.new.builder 50 51 (pos 4450) (pos 950) (pos 4950) (pos 950) c.in_ok-add_point-3.ensures.gains a1 (λ e. omega arith) (λ e. apart_x 4450 4950 (λ f. omega arith) e.0)

pub returns-clause-bends : goal.returns-clause-bends
returns-clause-bends c =
    OnOk-more _ _ c.add_point-4.result
    (GainsBends-four c.args.builder.now c.add_point.new.builder c.add_point-2.new.builder c.add_point-3.new.builder c.add_point-4.new.builder c.in_ok-add_point.ensures.gains c.in_ok-add_point-2.ensures.gains c.in_ok-add_point-3.ensures.gains)
    c.add_point-4.ensures.gains
