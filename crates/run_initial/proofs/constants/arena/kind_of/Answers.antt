use Rattle.std.proofs.Common.{◌≡◌, ◌<◌, length, true, refl, sym, subst}
use Rattle.type_table.specs.Tree.{int, ptr}
use Rattle.type_table.specs.Types.{Types, tree}
use Rattle.run_initial.specs.Constants.Sound.{is_scalar}
use Rattle.run_initial.proofs.OnConstants.Typed.{integer_tree, no_other, pointer_tree, width_known}
use Rattle.run_initial.proofs.constants.arena.kind_of.Goals as goal

pub form_of-requires : goal.form_of-requires
form_of-requires c = subst (λ (t : Types). c.args.ty < length t.types) (sym c.types_of-types.ensures) c.requires.known

pub returns-in-Int-clause-tree : goal.returns-in-Int-clause-tree
returns-in-Int-clause-tree c =
    let is = subst (λ (t : Types). is_scalar (tree t c.args.ty) ≡ true) (sym c.types_of-types.ensures) c.requires.scalar in
    subst (λ (t : Types). tree t c.args.ty ≡ int c.in-Int.width) c.types_of-types.ensures (integer_tree c.types_of-types.result.now c.args.ty is c.in-Int.width c.in-Int.ensures.shape.is)

pub returns-in-Int-clause-leaf : goal.returns-in-Int-clause-leaf
returns-in-Int-clause-leaf c =
    let is = subst (λ (t : Types). is_scalar (tree t c.args.ty) ≡ true) (sym c.types_of-types.ensures) c.requires.scalar in
    let lt = subst (λ (t : Types). c.args.ty < length t.types) (sym c.types_of-types.ensures) c.requires.known in
    width_known c.types_of-types.result.now c.type_count-count.ensures.good c.args.ty c.in-Int.width lt (integer_tree c.types_of-types.result.now c.args.ty is c.in-Int.width c.in-Int.ensures.shape.is)

pub returns-in-Pointer-clause-tree : goal.returns-in-Pointer-clause-tree
returns-in-Pointer-clause-tree c =
    let is = subst (λ (t : Types). is_scalar (tree t c.args.ty) ≡ true) (sym c.types_of-types.ensures) c.requires.scalar in
    subst (λ (t : Types). tree t c.args.ty ≡ ptr) c.types_of-types.ensures (pointer_tree c.types_of-types.result.now c.args.ty is c.in-Pointer.ensures.shape.is)

pub returns-in-Nothing-clause-tree : goal.returns-in-Nothing-clause-tree
returns-in-Nothing-clause-tree c =
    let is = subst (λ (t : Types). is_scalar (tree t c.args.ty) ≡ true) (sym c.types_of-types.ensures) c.requires.scalar in
    absurd (no_other c.types_of-types.result.now c.args.ty is _ c.in-Nothing.ensures.shape.is refl)

pub returns-in-Opaque-clause-tree : goal.returns-in-Opaque-clause-tree
returns-in-Opaque-clause-tree c =
    let is = subst (λ (t : Types). is_scalar (tree t c.args.ty) ≡ true) (sym c.types_of-types.ensures) c.requires.scalar in
    absurd (no_other c.types_of-types.result.now c.args.ty is _ c.in-Opaque.ensures.shape.is refl)

pub returns-in-Array-clause-tree : goal.returns-in-Array-clause-tree
returns-in-Array-clause-tree c =
    let is = subst (λ (t : Types). is_scalar (tree t c.args.ty) ≡ true) (sym c.types_of-types.ensures) c.requires.scalar in
    absurd (no_other c.types_of-types.result.now c.args.ty is _ c.in-Array.ensures.shape.is refl)

pub returns-in-Struct-clause-tree : goal.returns-in-Struct-clause-tree
returns-in-Struct-clause-tree c =
    let is = subst (λ (t : Types). is_scalar (tree t c.args.ty) ≡ true) (sym c.types_of-types.ensures) c.requires.scalar in
    absurd (no_other c.types_of-types.result.now c.args.ty is _ c.in-Struct.ensures.shape.is refl)
