-- What is known of a constant of the arena.
use Rattle.std.proofs.Common.{◌≡◌, ℕ, ◌+◌, ◌≤◌, Bool, ◌&&◌, List, [], ◌∷◌, ◌++◌, map, take, length, slice_get, Some, refl, sym, ap, ◌∙◌}
use Rattle.std.specs.List.{fold}
use Rattle.std.proofs.lemmas.List.{length-map, length-take-le, map-append}
use Rattle.type_table.specs.Types.{tree, structs}
use Rattle.type_table.proofs.Steps.{take_next}
use Rattle.module_arena.specs.declared.constant.Const as the_const
use Rattle.module_arena.specs.declared.constant.TypedConst.{TypedConst}
use Rattle.module_arena.specs.Changes.{constant_in}
use Rattle.module_arena.specs.Lists.{Lists}
use Rattle.module_arena.specs.Mentions.{typed_in}
use Rattle.module_arena.specs.Constants.{fits}
use Rattle.module_arena.specs.View.{constant_at, constants_of, module_of}
use Rattle.entry_verify.specs.declared.constants.constants.ConstFact.{ConstFact}
use Rattle.entry_verify.specs.Constants.ConstantParts.{all_pass, both_constant_facts, const_fact, own_fact, part_fact, part_fact_at, typed_at, fits_outside, fits_within, own_address_passes, own_operands_fit}
use Rattle.entry_verify.proofs.OnConstants.ConstantsKnown.{fact_told, fits_told, own_structs}
use Rattle.entry_verify.proofs.OnConstants.PartsTold.{parts_listed}

mapped_twice : (a : Lists) (xs : List TypedConst) → map (part_fact (module_of a)) (map (typed_at a) xs) ≡ map (part_fact_at a) xs
mapped_twice a [] = refl
mapped_twice a (x ∷ xs) = ap (λ fs. part_fact_at a x ∷ fs) (mapped_twice a xs)

pub fact_whole : (a : Lists) (c : the_const.Const) (own within : ConstFact) → own ≡ own_fact (module_of a) (constant_in a c) → within ≡ fold both_constant_facts all_pass (map (part_fact_at a) (typed_in c))
    → both_constant_facts own within ≡ const_fact (module_of a) (constant_in a c)
fact_whole a c own within e w =
    (λ j. both_constant_facts (e j) (w j))
    ∙ ap (λ fs. both_constant_facts (own_fact (module_of a) (constant_in a c)) (fold both_constant_facts all_pass fs)) (sym (ap (map (part_fact (module_of a))) (parts_listed a c) ∙ mapped_twice a (typed_in c)))
    ∙ sym (fact_told (module_of a) (constant_in a c))

pub mapped_next : {X Y : Type 0} (f : X → Y) (xs : List X) (i : ℕ) (x : X) → slice_get xs i ≡ Some x → map f (take i xs) ++ f x ∷ [] ≡ map f (take (i + 1) xs)
mapped_next f xs i x e = sym (map-append f (take i xs) (x ∷ [])) ∙ ap (map f) (sym (take_next xs i x e))

-- a part at its type, from what is known of it at any type
pub part_whole : (a : Lists) (x : TypedConst) (fact : ConstFact) (outside : Bool) → fact ≡ const_fact (module_of a) (constant_at (constants_of a) x.value)
    → outside ≡ fits_outside (structs a.table) (tree a.table x.ty) (constant_at (constants_of a) x.value)
    → record { takes_no_intrinsic = fact.takes_no_intrinsic; types_suit = fact.types_suit; parts_fit = outside && fact.parts_fit } ≡ part_fact_at a x
part_whole a x fact outside e o =
    let m = module_of a in
    let k = constant_at (constants_of a) x.value in
    (λ j. record { takes_no_intrinsic = (e j).takes_no_intrinsic; types_suit = (e j).types_suit; parts_fit = (o ∙ ap (λ s. fits_outside s (tree a.table x.ty) k) (sym (own_structs a))) j && (e j).parts_fit })
    ∙ (λ j. record { takes_no_intrinsic = (const_fact m k).takes_no_intrinsic; types_suit = (const_fact m k).types_suit; parts_fit = sym (fits_told m.structs (tree a.table x.ty) k) j })

-- a constant itself
pub own_whole : (a : Lists) (c : the_const.Const) (passes suit fit : Bool) → passes ≡ own_address_passes (module_of a) (constant_in a c) → suit ≡ (own_fact (module_of a) (constant_in a c)).types_suit
    → fit ≡ own_operands_fit (structs a.table) (constant_in a c) → record { takes_no_intrinsic = passes; types_suit = suit; parts_fit = fit } ≡ own_fact (module_of a) (constant_in a c)
own_whole a c passes suit fit p s f =
    λ j. record { takes_no_intrinsic = p j; types_suit = s j; parts_fit = (f ∙ ap (λ x. own_operands_fit x (constant_in a c)) (sym (own_structs a))) j }

-- a constant at a type, from what is known of it at any type
pub fits_whole : (a : Lists) (ty id : ℕ) (fact : ConstFact) (outside : Bool) → fact ≡ const_fact (module_of a) (constant_at (constants_of a) id)
    → outside ≡ fits_outside (structs a.table) (tree a.table ty) (constant_at (constants_of a) id) → (outside && fact.parts_fit) ≡ fits (structs a.table) (tree a.table ty) (constant_at (constants_of a) id)
fits_whole a ty id fact outside e o =
    let k = constant_at (constants_of a) id in
    (λ j. o j && (e j).parts_fit)
    ∙ ap (λ s. fits_outside (structs a.table) (tree a.table ty) k && fits_within s k) (own_structs a)
    ∙ sym (fits_told (structs a.table) (tree a.table ty) k)

-- so many were looked at
pub so_many : {X Y : Type 0} (f : X → Y) (xs : List X) (n : ℕ) → n ≤ length xs → length (map f (take n xs)) ≡ n
so_many f xs n le = length-map (take n xs) f ∙ length-take-le n xs le
