-- What the table of an arena tells of its limits is what the definition asks of all types.
use Rattle.std.proofs.Common.{◌≡◌, ◌<◌, ◌+◌, ◌≢◌, ℕ, zero, suc, true, false, List, [], ◌∷◌, ◌++◌, Option, Some, None, map, length, get_or, All, Any, refl, ap, subst, ◌∙◌, arith, inl, inr}
use Rattle.std.specs.List.{list_all}
use Rattle.std.proofs.lemmas.Bool.{and_from, and_parts, false_from_ne_true}
use Rattle.std.proofs.lemmas.List.{length-append, length-map, get_or-append-add}
use Rattle.std.proofs.lemmas.List.Elements.{All-head, All-tail}
use Rattle.type_table.specs.declared.fault.TypeFault.{TypeFault}
use Rattle.type_table.specs.declared.fault.TypeFault.TheVariants as fault
use Rattle.type_table.specs.Limits.{IsTooDeep, IsTooLarge, IsWithinLimits, IsWithin, HasFault, SomeContainsItself, all_shapes}
use Rattle.type_table.specs.Shape.{Shape, shape}
use Rattle.type_table.specs.Tree.{named, body_of}
use Rattle.type_table.specs.Types.{Types, names, trees, structs}
use Rattle.type_table.proofs.UnderIds.{get_or-map}
use Rattle.module_arena.specs.WellFormed.{is_within_limits}
use Rattle.module_arena.proofs.WithinLimits.{within_limits_decides}
use Rattle.record_table.specs.TypeRecords.{all_fit}
use Rattle.type_read.proofs.Endless.{no_shape}

each_fits : (ss : List (Option Shape)) → All IsWithinLimits ss → list_all is_within_limits ss ≡ true
each_fits [] all = refl
each_fits (s ∷ ss) all = and_from (is_within_limits s) (list_all is_within_limits ss) ((within_limits_decides s).1 (All-head IsWithinLimits s ss all)) (each_fits ss (All-tail IsWithinLimits s ss all))

-- a table within the limits fits
pub within_fits : (t : Types) → IsWithin t → all_fit t ≡ true
within_fits t h = each_fits (all_shapes t) h.fits

at_fits : (ss : List (Option Shape)) (i : ℕ) (d : Option Shape) → list_all is_within_limits ss ≡ true → i < length ss → IsWithinLimits (get_or ss i d)
at_fits [] i d h lt = absurd (omega arith)
at_fits (s ∷ ss) zero d h lt = (within_limits_decides s).0 (and_parts (is_within_limits s) (list_all is_within_limits ss) h).0
at_fits (s ∷ ss) (suc i) d h lt = at_fits ss i d (and_parts (is_within_limits s) (list_all is_within_limits ss) h).1 (omega arith)

not_deep : (s : Option Shape) → IsWithinLimits s → IsTooDeep s → ⊥
not_deep None w d = w
not_deep (Some s) w d = omega (arith, w.nests, d)

not_large : (s : Option Shape) → IsWithinLimits s → IsTooLarge s → ⊥
not_large None w l = l
not_large (Some s) w l = by_case l
  where
    by_case : IsTooLarge (Some s) → ⊥
    by_case (inl p) = omega (arith, w.parts_fit, p)
    by_case (inr (inl n)) = omega (arith, w.length_fits, n)
    by_case (inr (inr z)) = let fits = w.size_fits z.0 in omega (arith, fits, z.1)

never : (P : Option Shape → Type 0) → ((s : Option Shape) → IsWithinLimits s → P s → ⊥) → (ss : List (Option Shape)) → list_all is_within_limits ss ≡ true → Any P ss → ⊥
never P against ss h some = against some.1 (subst IsWithinLimits some.3 (at_fits ss some.0 some.1 h some.2)) some.4

-- a struct that contains itself has no shape among those of the table
contains : (t : Types) → all_fit t ≡ true → SomeContainsItself t → ⊥
contains t h some =
    let name = get_or (names t) some.0 [] in
    let none = no_shape (body_of (structs t)) name 64 some.2 in
    let many = length-append (trees t) (map named (names t)) in
    let i = length (trees t) + some.0 in
    let size : length (all_shapes t) ≡ length (trees t) + length t.structs = length-map (trees t ++ map named (names t)) (shape (structs t)) ∙ (many ∙ ap (λ n. length (trees t) + n) (length-map (names t) named ∙ length-map t.structs (λ s. s.0))) in
    let there = get_or-map (shape (structs t)) (trees t ++ map named (names t)) i (named []) in
    let here : get_or (trees t ++ map named (names t)) i (named []) ≡ named name = get_or-append-add (trees t) (map named (names t)) some.0 (named []) ∙ get_or-map named (names t) some.0 [] in
    let fits = at_fits (all_shapes t) i (shape (structs t) (named [])) h (omega (arith, size, some.1)) in
    subst IsWithinLimits (there ∙ (ap (shape (structs t)) here ∙ none)) fits

-- one that is refused for another cause than memory does not fit
pub refused_unfit : (t : Types) (why : TypeFault) → HasFault t why → why ≢ fault.Memory → all_fit t ≡ false
refused_unfit t fault.Duplicate h other = absurd h
refused_unfit t fault.SelfContaining h other = false_from_ne_true (all_fit t) (λ e. contains t e h)
refused_unfit t fault.TooDeep h other = false_from_ne_true (all_fit t) (λ e. never IsTooDeep not_deep (all_shapes t) e h.1)
refused_unfit t fault.TooLarge h other = false_from_ne_true (all_fit t) (λ e. never IsTooLarge not_large (all_shapes t) e h.2)
refused_unfit t fault.Memory h other = absurd (other refl)
