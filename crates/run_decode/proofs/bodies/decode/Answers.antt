use Rattle.std.proofs.Common.{[], All, List, sym, ◌∙◌, subst}
use Rattle.std.proofs.lemmas.List.Elements.{All-nil}
use Rattle.std.proofs.lemmas.Option.{slice_get_within}
use Rattle.module_arena.specs.Lists.{Lists}
use Rattle.module_arena.specs.Valid.{IsValid}
use Rattle.module_arena.specs.View.{module_of}
use Rattle.module_arena.specs.WellFormed.{IsWellFormed}
use Rattle.run_decode.specs.declared.flat.action.Action.{Action}
use Rattle.run_decode.specs.Flat.Flat.{IsWithin}
use Rattle.run_decode.specs.Flat.Grown.{no_pools}
use Rattle.run_decode.specs.Signatures.Numbers.{AreNumbered, IsNumbered}
use Rattle.run_decode.proofs.Rowed.{all_rows_in, body_is, code_there, function_suits, suits_there}
use Rattle.run_decode.proofs.bodies.decode.Goals as goal

pub new-requires-clause-id : goal.new-requires-clause-id
new-requires-clause-id c = slice_get_within c.args.names.now.functions c.args.id c.requires.code.0 c.requires.code.1

pub new-requires-clause-values : goal.new-requires-clause-values
new-requires-clause-values c = λ f at. let suits = function_suits c.args.names.now _ _ c.args.id f [] (c.arena-arena.ensures.arena ∙ c.program-program.ensures) c.program-program.ensures c.functions_of_a_checked_module_suit.ensures c.variable_count-count.ensures.good c.arena-arena.ensures.well_formed c.arena-arena.ensures.valid at in suits.values

pub put_blocks-requires-clause-lists : goal.put_blocks-requires-clause-lists
put_blocks-requires-clause-lists c = c.requires.lists ∙ sym c.in_ok-scope.ensures.lists

pub put_blocks-requires-clause-numbered : goal.put_blocks-requires-clause-numbered
put_blocks-requires-clause-numbered c =
    let s = c.in_ok-scope.scope in
    subst (AreNumbered c.args.signatures.now s.lists) (sym c.new-pools.ensures) (All-nil (IsNumbered c.args.signatures.now s.lists no_pools))

pub put_blocks-requires-clause-within : goal.put_blocks-requires-clause-within
put_blocks-requires-clause-within c = subst (λ (xs : List Action). All (IsWithin c.new-pools.result) xs) (sym c.new-actions.ensures) (All-nil (IsWithin c.new-pools.result))

pub put_blocks-requires-clause-suits : goal.put_blocks-requires-clause-suits
put_blocks-requires-clause-suits c =
    suits_there c.in_ok-scope.scope c.args.names.now c.args.id c.in_ok-scope.ensures.lists c.in_ok-scope.ensures.function
    (λ f places at. function_suits c.args.names.now _ _ c.args.id f places (c.arena-arena.ensures.arena ∙ c.program-program.ensures) c.program-program.ensures c.functions_of_a_checked_module_suit.ensures c.variable_count-count.ensures.good c.arena-arena.ensures.well_formed c.arena-arena.ensures.valid at)

pub new-requires-2-clause-rows : goal.new-requires-2-clause-rows
new-requires-2-clause-rows c = all_rows_in c.in_ok-scope.scope c.put_blocks.new.pools c.put_blocks.new.actions c.in_ok-rows.rows c.in_ok-rows.ensures.rows

pub new-requires-2-clause-within : goal.new-requires-2-clause-within
new-requires-2-clause-within c = c.in_ok-rows.ensures.rows.within

pub returns-clause-look : goal.returns-clause-look
returns-clause-look c =
    let a = c.args.names.now in
    let s = c.in_ok-scope.scope in
    let well_formed = subst (λ (x : Lists). IsWellFormed (module_of x)) c.program-program.ensures c.arena-arena.ensures.well_formed in
    let valid = subst (λ (x : Lists). IsValid (module_of x)) c.program-program.ensures c.arena-arena.ensures.valid in
    body_is a s c.new-2.result c.put_blocks.new.pools c.put_blocks.new.actions c.in_ok-rows.rows c.args.id c.in_ok-scope.ensures.lists well_formed valid c.in_ok-scope.ensures.function
    (code_there a c.args.id c.requires.code.0 s.function c.requires.code.1 c.in_ok-scope.ensures.function c.requires.code.2) (c.new-2.ensures.lists ∙ c.program-program.ensures) c.new-2.ensures.pools c.new-2.ensures.rows c.in_ok-rows.ensures.rows

pub returns-clause-numbered : goal.returns-clause-numbered
returns-clause-numbered c =
    let m = c.put_blocks.new.signatures in
    subst (λ (x : Lists). AreNumbered m x c.new-2.result.pools) c.in_ok-scope.ensures.lists (subst (AreNumbered m c.in_ok-scope.scope.lists) (sym c.new-2.ensures.pools) c.in_ok-rows.ensures.numbered)
