-- One pass over the measures of the structs, as lists.
use Rattle.std.proofs.Common.{◌≡◌, ℕ, zero, suc, ◌+◌, ◌≤◌, ◌<◌, max, All, List, [], ◌∷◌, Option, None, length, get_or, ap, refl, sym, ◌∙◌, arith, add-one}
use Rattle.std.specs.List.{fold}
use Rattle.std.proofs.lemmas.List.Elements.{All-head, All-tail}
use Rattle.type_table.specs.declared.ir_type.IrType.{IrType}
use Rattle.type_table.specs.declared.ir_type.StructBody.{StructBody}
use Rattle.type_table.specs.declared.measure.Measure.{Measure}
use Rattle.type_table.specs.Measures.{opaque_measure, body_measure, type_measures, struct_measures, passes, deepest_nesting}

pub passes-zero : (types : List IrType) (bodies : List (Option StructBody)) (start : List Measure) → passes types bodies start 0 ≡ start
unfolding passes
passes-zero types bodies start = refl

pub passes-suc : (types : List IrType) (bodies : List (Option StructBody)) (start : List Measure) (n : ℕ)
    → passes types bodies start (suc n) ≡ struct_measures (type_measures (passes types bodies start n) types) (passes types bodies start n) bodies
unfolding passes
passes-suc types bodies start n = refl

pub passes-more : (types : List IrType) (bodies : List (Option StructBody)) (start : List Measure) (n : ℕ)
    → passes types bodies start (n + 1) ≡ struct_measures (type_measures (passes types bodies start n) types) (passes types bodies start n) bodies
passes-more types bodies start n = rw add-one (passes-suc types bodies start n)

pub length-struct_measures : (types hads : List Measure) (bodies : List (Option StructBody)) → length hads ≡ length bodies → length (struct_measures types hads bodies) ≡ length bodies
length-struct_measures types [] [] e = refl
length-struct_measures types [] (b ∷ bodies) e = absurd (omega arith)
length-struct_measures types (h ∷ hads) [] e = absurd (omega arith)
length-struct_measures types (h ∷ hads) (b ∷ bodies) e = ap suc (length-struct_measures types hads bodies (omega arith))

pub length-passes : (types : List IrType) (bodies : List (Option StructBody)) (start : List Measure) (n : ℕ) → length start ≡ length bodies → length (passes types bodies start n) ≡ length bodies
length-passes types bodies start zero e = ap length (passes-zero types bodies start) ∙ e
length-passes types bodies start (suc n) e =
    ap length (passes-suc types bodies start n)
    ∙ length-struct_measures (type_measures (passes types bodies start n) types) (passes types bodies start n) bodies (length-passes types bodies start n e)

pub get_or-struct_measures : (types hads : List Measure) (bodies : List (Option StructBody)) (i : ℕ) → length hads ≡ length bodies
    → get_or (struct_measures types hads bodies) i opaque_measure ≡ body_measure types (get_or hads i opaque_measure) (get_or bodies i None)
get_or-struct_measures types [] [] i e = refl
get_or-struct_measures types [] (b ∷ bodies) i e = absurd (omega arith)
get_or-struct_measures types (h ∷ hads) [] i e = absurd (omega arith)
get_or-struct_measures types (h ∷ hads) (b ∷ bodies) zero e = refl
get_or-struct_measures types (h ∷ hads) (b ∷ bodies) (suc i) e = get_or-struct_measures types hads bodies i (omega arith)

-- one turn of the loop over the passes
pub pass_next : (types : List IrType) (bodies : List (Option StructBody)) (start before seen kt kept again after : List Measure) (n : ℕ)
    → before ≡ passes types bodies start n → seen ≡ before → kt ≡ type_measures seen types → kept ≡ kt → again ≡ before → after ≡ struct_measures kept again bodies
    → after ≡ passes types bodies start (n + 1)
pass_next types bodies start before seen kt kept again after n is see made keep same next =
    let types_made : kept ≡ type_measures (passes types bodies start n) types = keep ∙ made ∙ ap (λ ss. type_measures ss types) (see ∙ is) in
    next ∙ (λ j. struct_measures (types_made j) ((same ∙ is) j) bodies) ∙ sym (passes-more types bodies start n)

abbrev most_from : ℕ → List Measure → ℕ
most_from a ms = fold (λ most (m : Measure). max most m.nesting) a ms

most_from-le : (ms : List Measure) (a : ℕ) → a ≤ most_from a ms
most_from-le [] a = omega arith
most_from-le (m ∷ ms) a = let rest = most_from-le ms (max a m.nesting) in omega (arith, rest)

most_from-at : (ms : List Measure) (a k : ℕ) (d : Measure) → k < length ms → (get_or ms k d).nesting ≤ most_from a ms
most_from-at [] a k d lt = absurd (omega arith)
most_from-at (m ∷ ms) a zero d lt = let rest = most_from-le ms (max a m.nesting) in omega (arith, rest)
most_from-at (m ∷ ms) a (suc k) d lt = most_from-at ms (max a m.nesting) k d (omega arith)

-- no measure nests deeper than the deepest
pub deepest_most : (ms : List Measure) → All (λ m. m.nesting ≤ deepest_nesting ms) ms
deepest_most ms k d lt = most_from-at ms 0 k d lt

most_from-bound : (ms : List Measure) (a bound : ℕ) → a ≤ bound → All (λ m. m.nesting ≤ bound) ms → most_from a ms ≤ bound
most_from-bound [] a bound le all = le
most_from-bound (m ∷ ms) a bound le all =
    let P : Measure → Type 0 = λ n. n.nesting ≤ bound in
    let here = All-head P m ms all in
    most_from-bound ms (max a m.nesting) bound (omega (arith, here)) (All-tail P m ms all)

-- the deepest nests no deeper than a bound of all
pub deepest_bound : (ms : List Measure) (bound : ℕ) → All (λ m. m.nesting ≤ bound) ms → deepest_nesting ms ≤ bound
deepest_bound ms bound all = most_from-bound ms 0 bound (omega arith) all
