-- Structs that are named one after the other.
use Rattle.std.proofs.Common.{◌≡◌, ℕ, zero, suc, ◌+◌, ◌<◌, List, [], ◌∷◌, ◌++◌, map, take, length, slice_get, Option, Some, None, refl, sym, subst, ap, ◌∙◌, arith}
use Rattle.std.specs.Prelude.{Contains}
use Rattle.std.proofs.lemmas.List.{length-map, length-take-le, get_or-take}
use Rattle.std.proofs.lemmas.Option.{get_or_from_slice_get, slice_get_within}
use Rattle.type_table.specs.declared.ir_type.StructBody.{StructBody}
use Rattle.type_table.specs.Tree.{TreeBody, Structs}
use Rattle.type_table.specs.Types.{Types, IsGood, names, structs, with_struct}
use Rattle.module_arena.proofs.Found.{some-equal}
use Rattle.item_build.proofs.OnTypes.Staying.{names_same}
use Rattle.item_build.specs.Named.{named_table}
use Rattle.item_build.specs.Partly.{names_of}

map_taken : {X Y : Type 0} (f : X → Y) (n : ℕ) (xs : List X) → map f (take n xs) ≡ take n (map f xs)
map_taken f zero xs = refl
map_taken f (suc n) [] = refl
map_taken f (suc n) (x ∷ xs) = ap (λ ys. f x ∷ ys) (map_taken f n xs)

abbrev unnamed : List ℕ × TreeBody → List ℕ × Option StructBody
unnamed s = (s.0, None)

named_alone : (ss : Structs) → map (λ (s : List ℕ × Option StructBody). s.0) (map unnamed ss) ≡ names_of ss
named_alone [] = refl
named_alone (s ∷ ss) = ap (λ ns. s.0 ∷ ns) (named_alone ss)

-- the names as far as they are named
named_so_far : (t : Types) (k : ℕ) → names (named_table (take k (structs t))) ≡ take k (names t)
named_so_far t k = named_alone (take k (structs t)) ∙ map_taken (λ (s : List ℕ × TreeBody). s.0) k (structs t) ∙ ap (take k) (names_same t)

-- the names where all are named
pub names_named : (t : Types) → names (named_table (structs t)) ≡ names t
names_named t = named_alone (structs t) ∙ names_same t

pub as_many : (t : Types) (k : ℕ) → k < length t.structs → length (named_table (take k (structs t))).structs ≡ k
as_many t k lt =
    let all = length-map t.structs (λ (s : List ℕ × Option StructBody). s.0) in
    let here = length-map (named_table (take k (structs t))).structs (λ (s : List ℕ × Option StructBody). s.0) in
    sym here ∙ ap length (named_so_far t k) ∙ length-take-le k (names t) (omega (arith, all, lt))

pub is_new : (t : Types) → IsGood t → (k : ℕ) (name : List ℕ) → slice_get (names t) k ≡ Some name → Contains (names (named_table (take k (structs t)))) name → ⊥
is_new t good k name is has =
    let within = subst (λ (ns : List (List ℕ)). Contains ns name) (named_so_far t k) has in
    let lt = slice_get_within (names t) k name is in
    let long = length-take-le k (names t) (omega (arith, lt)) in
    let below = within.1 in
    let before : within.0 < k = omega (arith, below, long) in
    good.distinct within.0 k name before lt
    (sym (get_or-take k (names t) within.0 name before) ∙ within.2 ∙ sym (get_or_from_slice_get (names t) k name name is))

more : (ss : Structs) (k : ℕ) (name : List ℕ) → slice_get (names_of ss) k ≡ Some name → map unnamed (take k ss) ++ (name, None) ∷ [] ≡ map unnamed (take (suc k) ss)
more [] k name e = absurd cc
more (s ∷ ss) zero name e = ap (λ n. (n, None) ∷ []) (sym (some-equal e))
more (s ∷ ss) (suc k) name e = ap (λ xs. unnamed s ∷ xs) (more ss k name e)

pub one_more : (t : Types) (k : ℕ) (name : List ℕ) → slice_get (names t) k ≡ Some name → with_struct (named_table (take k (structs t))) name ≡ named_table (take (k + 1) (structs t))
one_more t k name is =
    let next : suc k ≡ k + 1 = omega arith in
    λ j. record { types = []; structs = (more (structs t) k name (ap (λ ns. slice_get ns k) (names_same t) ∙ is) ∙ ap (λ n. map unnamed (take n (structs t))) next) j }
