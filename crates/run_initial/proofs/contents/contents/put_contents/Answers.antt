use Rattle.std.proofs.Common.{Some, refl, ap, sym, ◌∙◌, subst}
use Rattle.std.proofs.lemmas.Option.{same_Some, slice_get-get_or}
use Rattle.module_arena.specs.Lists.{Lists}
use Rattle.module_arena.specs.Valid.{IsValid}
use Rattle.module_arena.specs.View.{module_of}
use Rattle.module_arena.specs.WellFormed.{IsWellFormed}
use Rattle.run_names.specs.declared.spot.Spot.{Spot}
use Rattle.run_initial.proofs.OnContents.Known.{defines_within, initialised}
use Rattle.run_names.specs.Spots.{size_of}
use Rattle.run_initial.proofs.OnInitial.Puts.{kept_on}
use Rattle.run_initial.proofs.OnContents.Placed.{new_there, placed_from_start}
use Rattle.run_initial.proofs.OnContents.Rooms.{its_variable, size_is}
use Rattle.run_initial.proofs.OnContents.Stores.{one_stored, others_placed}
use Rattle.run_initial.proofs.contents.contents.put_contents.Goals as goal

pub spots-init : goal.spots-init
spots-init c = record { stored = refl; placed = placed_from_start c.args.names.now c.args.memory.now c.requires; kept = (refl, refl) }

pub put_variable-requires-clause-fresh : goal.put_variable-requires-clause-fresh
put_variable-requires-clause-fresh c = λ v at.
    let a = c.args.names.now in
    let well_formed : IsWellFormed (module_of a) = subst (λ (b : Lists). IsWellFormed (module_of b)) c.program-program.ensures c.arena-arena.ensures.well_formed in
    let valid : IsValid (module_of a) = subst (λ (b : Lists). IsValid (module_of b)) c.program-program.ensures c.arena-arena.ensures.valid in
    let spots = c.spots-spots.result.now in
    let are = c.spots-spots.ensures in
    let k = c.spots.block in
    let s = c.index-spots-block.result in
    let there = slice_get-get_or spots k s c.spots-test.true ∙ ap (λ (x : Spot). Some x) (sym c.index-spots-block.is) in
    let its = its_variable a well_formed valid spots are k s there in
    let same = same_Some its.0 v (sym its.1.at ∙ at) in
    let size = size_is a well_formed valid spots are k s there its.0 its.1 ∙ ap (size_of a) same in
    new_there a k c.spots.memory spots are s there c.spots.invariant.placed (size_of a v) size

pub put_variable-requires-clause-defined : goal.put_variable-requires-clause-defined
put_variable-requires-clause-defined c =
    let s = c.index-spots-block.result in
    let there = slice_get-get_or c.spots-spots.result.now c.spots.block s c.spots-test.true ∙ ap (λ (x : Spot). Some x) (sym c.index-spots-block.is) in
    c.spots-spots.ensures.defined c.spots.block s there

pub put_variable-requires-clause-id : goal.put_variable-requires-clause-id
put_variable-requires-clause-id c =
    let s = c.index-spots-block.result in
    let there = slice_get-get_or c.spots-spots.result.now c.spots.block s c.spots-test.true ∙ ap (λ (x : Spot). Some x) (sym c.index-spots-block.is) in
    defines_within c.args.names.now s.variable (c.spots-spots.ensures.defined c.spots.block s there)

pub spots-preserved : goal.spots-preserved
spots-preserved c =
    let a = c.args.names.now in
    let well_formed : IsWellFormed (module_of a) = subst (λ (b : Lists). IsWellFormed (module_of b)) c.program-program.ensures c.arena-arena.ensures.well_formed in
    let valid : IsValid (module_of a) = subst (λ (b : Lists). IsValid (module_of b)) c.program-program.ensures c.arena-arena.ensures.valid in
    let spots = c.spots-spots.result.now in
    let are = c.spots-spots.ensures in
    let k = c.spots.block in
    let s = c.index-spots-block.result in
    let there = slice_get-get_or spots k s c.spots-test.true ∙ ap (λ (x : Spot). Some x) (sym c.index-spots-block.is) in
    let its = its_variable a well_formed valid spots are k s there in
    let has = initialised its.0 its.1.is in
    let m = c.spots.memory in
    let n = c.put_variable.new.memory in
    let put = c.in_ok-put_variable.ensures.put its.0 its.1.at in
    record {
      stored = one_stored a well_formed valid spots are k s there its.0 its.1 has.0 has.1 m n c.spots.invariant.placed put ∙ c.spots.invariant.stored;
      placed = others_placed a well_formed valid spots are k s there its.0 its.1 has.0 has.1 m n c.spots.invariant.placed put c.in_ok-put_variable.ensures.kept;
      kept = kept_on c.args.memory.now m n c.spots.invariant.kept c.in_ok-put_variable.ensures.kept;
    }

pub returns-in_err-put_variable-clause-kept : goal.returns-in_err-put_variable-clause-kept
returns-in_err-put_variable-clause-kept c = kept_on c.args.memory.now c.spots.memory c.put_variable.new.memory c.spots.invariant.kept c.in_err-put_variable.ensures.kept
