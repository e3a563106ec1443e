-- What holds of a constant by what stands in the arena.
use Rattle.std.proofs.Common.{◌≡◌, ℕ, List, [], ◌∷◌, All, length, true, sym, ap, ◌∙◌, subst, true≢false, eqb-true, arith}
use Rattle.std.specs.Prelude.{nat_eq}
use Rattle.std.specs.List.{list_all}
use Rattle.std.proofs.lemmas.Bool.{and_parts}
use Rattle.ir_eval.specs.declared.value.Scalar.{Scalar}
use Rattle.type_table.specs.Tree.{Tree, ptr, Structs}
use Rattle.type_table.specs.Types.{tree}
use Rattle.module_arena.specs.Changes.{constant_in}
use Rattle.module_arena.specs.Constants.{Index, element_operands_fit, index_constants, indices_fit, leads_to_part}
use Rattle.module_arena.specs.declared.constant.Const.{Const}
use Rattle.module_arena.specs.declared.constant.TypedConst.{TypedConst}
use Rattle.module_arena.specs.Lists.{Lists}
use Rattle.module_arena.specs.Module.{more_constants, Constant, Constants}
use Rattle.module_arena.specs.TypeTests.{is_integer, is_pointer}
use Rattle.module_arena.specs.View.{module_of}
use Rattle.run_rules.specs.Constant.{constant_value, one_leaf}
use Rattle.run_initial.proofs.OnConstants.Within.{all_more}
use Rattle.run_initial.specs.Constants.Sound.{IsSound, constant_of, constants_with_types, names_of}

module _ (a : Lists) (id : ℕ) (known form : Const) (here : constant_of a id ≡ constant_in a known) (is : known ≡ form) where
  -- a constant that is `known` is what its form says
  pub as_form : constant_of a id ≡ constant_in a form
  as_form = here ∙ ap (constant_in a) is

  pub sound_as : (t : Tree) → IsSound (module_of a) t (constant_of a id) → IsSound (module_of a) t (constant_in a form)
  sound_as t s = subst (IsSound (module_of a) t) as_form s

  pub leaf_as : (t : Tree) (v : Scalar) → v ≡ one_leaf (constant_value (names_of a) t (constant_in a form)) → v ≡ one_leaf (constant_value (names_of a) t (constant_of a id))
  leaf_as t v e = e ∙ ap (λ (c : Constant). one_leaf (constant_value (names_of a) t c)) (sym as_form)

  pub value_as : (t : Tree) → constant_value (names_of a) t (constant_in a form) ≡ constant_value (names_of a) t (constant_of a id)
  value_as t = ap (constant_value (names_of a) t) (sym as_form)

-- ---- operands of an address

pointer_is : (t : Tree) → is_pointer t ≡ true → t ≡ ptr
pointer_is ptr h = λ i. ptr
pointer_is _ h = absurd (true≢false (sym h))

pub base_pointer : (ss : Structs) (source t : Tree) (c : Constant) (cs : Constants) → element_operands_fit ss source (more_constants t c cs) ≡ true → t ≡ ptr
base_pointer ss source t c cs h = pointer_is t (and_parts (is_pointer t) (indices_fit ss source (index_constants cs)) h).0

pub integers_in : (ss : Structs) (source : Tree) (is : List Index) → indices_fit ss source is ≡ true → list_all (λ (i : Index). is_integer i.ty) is ≡ true
integers_in ss source [] h = h
integers_in ss source (i ∷ is) h = (and_parts (list_all (λ (i : Index). is_integer i.ty) (i ∷ is)) (leads_to_part ss source is) h).0

all_integers : (a : Lists) (parts : List TypedConst) → list_all (λ (i : Index). is_integer i.ty) (index_constants (constants_with_types a parts)) ≡ true → All (λ part. is_integer (tree a.table part.ty) ≡ true) parts
all_integers a [] h = λ k d lt. absurd (omega (arith, lt))
all_integers a (part ∷ parts) h =
    let both = and_parts (is_integer (tree a.table part.ty)) (list_all (λ (i : Index). is_integer i.ty) (index_constants (constants_with_types a parts))) h in
    all_more (λ part. is_integer (tree a.table part.ty) ≡ true) part parts both.0 (all_integers a parts both.1)

pub indices_integers : (a : Lists) (ss : Structs) (source t : Tree) (c : Constant) (parts : List TypedConst) → element_operands_fit ss source (more_constants t c (constants_with_types a parts)) ≡ true → All (λ part. is_integer (tree a.table part.ty) ≡ true) parts
indices_integers a ss source t c parts h =
    all_integers a parts (integers_in ss source (index_constants (constants_with_types a parts)) (and_parts (is_pointer t) (indices_fit ss source (index_constants (constants_with_types a parts))) h).1)

pub empty_of : {A : Type 0} (xs : List A) → nat_eq (length xs) 0 ≡ true → xs ≡ []
empty_of [] h = λ i. []
empty_of (x ∷ xs) h = let none = eqb-true (length (x ∷ xs)) 0 h in absurd (omega (arith, none))
