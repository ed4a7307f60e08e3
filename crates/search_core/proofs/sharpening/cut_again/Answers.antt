use Rattle.std.proofs.Common.{ℕ, List, [], ◌∷◌, inr, refl, sym, subst}
use Rattle.cable_definitions.specs.Row.{Row, IsWellFormed}
use Rattle.cable_rows.proofs.Wellformed.{few_members}
use Rattle.search_core.proofs.Lasting.{value-risen}
use Rattle.search_core.proofs.Listing.{lists-row, lists-well_formed}
use Rattle.search_core.proofs.RaisedCalls.{made-there, nearly-full, of_some}
use Rattle.cable_rows.specs.Made.{row_made}
use Rattle.stored_makers.specs.Makers.{IsSoundRow}
use Rattle.search_core.proofs.sharpening.cut_again.Goals as goal

pub returns-in-Err-clause-called : goal.returns-in-Err-clause-called
returns-in-Err-clause-called g c =
    let sound = of_some c.in_ok-row.field-0 c.in-Some.row (λ row. IsSoundRow c.args.site.now c.args.arcs.now (row_made row)) c.in-Some.is c.in_ok-row.ensures.sound in
    let well_formed = subst (λ (members : List ℕ). IsWellFormed c.args.site.now c.args.arcs.now (record { kind = c.in-Some.row.kind; members = members })) (sym c.as_slice.ensures) sound.well_formed in (
      c.in_ok-row.ensures.calls,
      inr (
        made-there c.call.new.self.made c.args.maker.now.made c.in_ok-row.field-0 c.in-Some.row c.in-Some.is c.in_ok-row.ensures.made,
        nearly-full c.args.pool.now c.add.new.self c.as_slice.result.now c.in-Err.ensures.full c.in-Err.ensures.room.1
            (few_members c.args.site.now c.args.arcs.now c.in-Some.row.kind c.as_slice.result.now well_formed),
      ),
    )

pub improved_weights-requires-clause-well_formed : goal.improved_weights-requires-clause-well_formed
improved_weights-requires-clause-well_formed g c =
    let row : Row = record { kind = c.in-Some.row.kind; members = c.as_slice.result.now } in
    let sound = of_some c.in_ok-row.field-0 c.in-Some.row (λ row. IsSoundRow c.args.site.now c.args.arcs.now (row_made row)) c.in-Some.is c.in_ok-row.ensures.sound in
    let well_formed = subst (λ (members : List ℕ). IsWellFormed c.args.site.now c.args.arcs.now (record { kind = c.in-Some.row.kind; members = members })) (sym c.as_slice.ensures) sound.well_formed in
    lists-well_formed c.args.site.now c.args.arcs.now c.args.pool.now c.add.new.self
    (lists-row c.args.site.now c.args.arcs.now row c.args.pool.now c.add.new.self well_formed c.in-Ok.ensures.listed (c.in-Ok.ensures.room.0 refl)) c.requires.well_formed

pub returns-clause-lists : goal.returns-clause-lists
returns-clause-lists g c =
    let row : Row = record { kind = c.in-Some.row.kind; members = c.as_slice.result.now } in
    let sound = of_some c.in_ok-row.field-0 c.in-Some.row (λ row. IsSoundRow c.args.site.now c.args.arcs.now (row_made row)) c.in-Some.is c.in_ok-row.ensures.sound in
    let well_formed = subst (λ (members : List ℕ). IsWellFormed c.args.site.now c.args.arcs.now (record { kind = c.in-Some.row.kind; members = members })) (sym c.as_slice.ensures) sound.well_formed in
    lists-row c.args.site.now c.args.arcs.now row c.args.pool.now c.add.new.self well_formed c.in-Ok.ensures.listed (c.in-Ok.ensures.room.0 refl)

pub returns-clause-risen : goal.returns-clause-risen
returns-clause-risen g c =
    let row : Row = record { kind = c.in-Some.row.kind; members = c.as_slice.result.now } in
    let old = c.requires.raised in
    let new = c.in_ok-worth.ensures.raised in
    value-risen c.args.site.now c.args.arcs.now c.args.pool.now (row ∷ []) c.add.new.self c.args.decisions.now c.args.worth.now.weights _ c.args.worth.now.value _ c.in-Ok.ensures.listed old.lawful old.is_value
    new.is_value c.in_ok-worth.ensures.last
