-- The structs of a map, copied one after another.
use Rattle.std.proofs.Common.{◌≡◌, ◌≢◌, ℕ, ◌+◌, ◌<◌, List, [], ◌∷◌, ◌++◌, Some, take, map, length, get_or, slice_get, sym, ◌∙◌, subst, arith, AllPairs, Contains}
use Rattle.std.proofs.lemmas.List.{take-map, length-take, get_or-take, take_more, length-map}
use Rattle.std.proofs.lemmas.Option.{slice_get_within, get_or_from_slice_get}
use Rattle.type_table.proofs.UnderIds.{get_or-map}

-- the name of the next struct is none of those so far
pub next_is_new : {X : Type 0} (es : List (List ℕ × X)) (i : ℕ) (n : List ℕ) → AllPairs (λ a b. a ≢ b) (map (λ e. e.0) es) → slice_get (map (λ e. e.0) es) i ≡ Some n
    → Contains (map (λ e. e.0) (take i es)) n → ⊥
next_is_new {X} es i n distinct at found =
    let names : List (List ℕ) = map (λ e. e.0) es in
    let within = slice_get_within names i n at in
    let taken : Contains (take i names) n = subst (λ ns. Contains ns n) (sym (take-map (λ e. e.0) i es)) found in
    let short = length-take i names in
    let early : taken.0 < i = omega (arith, taken.1, short) in
    distinct taken.0 i n early within (sym (get_or-take i names taken.0 n early) ∙ taken.2 ∙ sym (get_or_from_slice_get names i n n at))

-- the next struct has the next name and the next body
pub next_struct : {X : Type 0} (es : List (List ℕ × X)) (i : ℕ) (n : List ℕ) (b : X) → slice_get (map (λ e. e.0) es) i ≡ Some n → slice_get (map (λ e. e.1) es) i ≡ Some b
    → take (i + 1) es ≡ take i es ++ (n, b) ∷ []
next_struct {X} es i n b name body =
    let within : i < length es = omega (arith, slice_get_within (map (λ e. e.0) es) i n name, length-map es (λ e. e.0)) in
    let entry : List ℕ × X = get_or es i (n, b) in
    let first : entry.0 ≡ n = sym (get_or-map (λ e. e.0) es i (n, b)) ∙ get_or_from_slice_get (map (λ e. e.0) es) i n n name in
    let second : entry.1 ≡ b = sym (get_or-map (λ e. e.1) es i (n, b)) ∙ get_or_from_slice_get (map (λ e. e.1) es) i b b body in
    take_more es i (n, b) within ∙ (λ j. take i es ++ (first j, second j) ∷ [])
