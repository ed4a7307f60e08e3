use Rattle.std.proofs.Common.{pos, [], ◌∷◌, refl}
use Rattle.drill_site.proofs.Welcome.{OnOk-more}
use Rattle.drill_site.proofs.Cornering.{Cornered-adds, GainsSquare-adds, clear_last}
use Rattle.drill_site.proofs.drill.add_square.Goals as goal

pub add_corner-requires-4-clause-clear : goal.add_corner-requires-4-clause-clear
add_corner-requires-4-clause-clear c one =
    let d = c.args.builder.now in
    let first = Cornered-adds d c.begin_obstacle.new.builder c.add_corner.new.builder [] 2 (pos 4500) (pos 500) c.in_ok-begin_obstacle.ensures c.in_ok-add_corner.ensures in
    let second = Cornered-adds d c.add_corner.new.builder c.add_corner-2.new.builder (first.corner ∷ []) 1 (pos 4900) (pos 500) first.becomes c.in_ok-add_corner-2.ensures in
    let third = Cornered-adds d c.add_corner-2.new.builder c.add_corner-3.new.builder (first.corner ∷ second.corner ∷ []) 0 (pos 4900) (pos 900) second.becomes c.in_ok-add_corner-3.ensures in
    clear_last d c.add_corner-3.new.builder first.corner second.corner third.corner _ first.at second.at third.at (refl, refl) third.becomes c.requires.beside

pub returns : goal.returns
returns c =
    let d = c.args.builder.now in
    let first = Cornered-adds d c.begin_obstacle.new.builder c.add_corner.new.builder [] 2 (pos 4500) (pos 500) c.in_ok-begin_obstacle.ensures c.in_ok-add_corner.ensures in
    let second = Cornered-adds d c.add_corner.new.builder c.add_corner-2.new.builder (first.corner ∷ []) 1 (pos 4900) (pos 500) first.becomes c.in_ok-add_corner-2.ensures in
    let third = Cornered-adds d c.add_corner-2.new.builder c.add_corner-3.new.builder (first.corner ∷ second.corner ∷ []) 0 (pos 4900) (pos 900) second.becomes c.in_ok-add_corner-3.ensures in
    OnOk-more _ _ c.add_corner-4.result (GainsSquare-adds d c.add_corner-3.new.builder c.add_corner-4.new.builder first.corner second.corner third.corner first.at second.at third.at third.becomes) c.add_corner-4.ensures
