-- Abbreviations by the bits where their definitions start.
use Rattle.std.proofs.Common.{◌≡◌, ℕ, zero, suc, ◌*◌, ◌<◌, Bool, true, false, cond, List, [], ◌∷◌, length, drop, Option, Some, None, Ok, map, refl, sym, ap, ◌∙◌, arith}
use Rattle.std.specs.Prelude.{unwrap_or, option_map, slice_get}
use Rattle.std.specs.Ordering.{nat_cmp, match_ordering}
use Rattle.std.specs.declared.cmp.Ordering.{Ordering}
use Rattle.std.specs.declared.cmp.Ordering.TheVariants.{Less, Equal, Greater}
use Rattle.std.specs.Map.{lookup, remove_entry}
use Rattle.std.specs.BTreeMap.{is_at, insert_entry}
use Rattle.std.proofs.lemmas.List.{drop_all}
use Rattle.bit_stream.specs.Bits.Bits.{stream_bits}
use Rattle.bit_stream.specs.Bits.Cursor.{Cursor}
use Rattle.bit_stream.specs.Bits.Reading.{vbr, vbr_from}
use Rattle.bit_stream.proofs.OnBits.BitsLaws.{length-stream_bits}
use Rattle.bit_stream.specs.Abbreviation.{AdmittedAbbreviation}
use Rattle.bit_stream.specs.Definition.{defined_abbreviation}
use Rattle.bit_stream.specs.Scope.{given_to}
use Rattle.bit_dump.specs.Walk.Starts.{at_bit, IsOn, no_abbreviation, or_none, abbreviation_at, row_at}

-- no definition starts behind the end
no_definition : (at : ℕ) → or_none (defined_abbreviation (record { at = at; rest = [] })) ≡ no_abbreviation
unfolding defined_abbreviation vbr vbr_from
no_definition at = refl

pub beyond : (bytes : List ℕ) (bit : ℕ) → 8 * length bytes < bit → abbreviation_at (stream_bits bytes) bit ≡ no_abbreviation
beyond bytes bit far =
    let none : drop bit (stream_bits bytes) ≡ [] = drop_all bit (stream_bits bytes) (omega (arith, length-stream_bits bytes)) in
    rw none (no_definition bit)

-- what was read at a place is the definition that starts there
pub abbreviation_here : (bits : List Bool) (c d : Cursor) (t : AdmittedAbbreviation) (start : ℕ) → IsOn bits c → defined_abbreviation c ≡ Ok (t, d) → start ≡ c.at → abbreviation_at bits start ≡ t
abbreviation_here bits c d t start on h same =
    let here : at_bit bits c.at ≡ c = λ i. record { at = c.at; rest = sym on i } in
    rw (same, here, h) refl

-- the table of what BLOCKINFO gave

over_cond : {A B : Type 0} (f : A → B) (b : Bool) (x y : A) → f (cond b x y) ≡ cond b (f x) (f y)
over_cond f true x y = refl
over_cond f false x y = refl

over_ordering : {A B : Type 0} (f : A → B) (o : Ordering) (x y z : A) → f (match_ordering o x y z) ≡ match_ordering o (f x) (f y) (f z)
over_ordering f Less x y z = refl
over_ordering f Equal x y z = refl
over_ordering f Greater x y z = refl

pub lookup_at : (bits : List Bool) (test : ℕ → Bool) (rows : List (ℕ × List ℕ)) → lookup test (map (row_at bits) rows) ≡ option_map (map (abbreviation_at bits)) (lookup test rows)
lookup_at bits test [] = refl
lookup_at bits test (e ∷ es) = rw (lookup_at bits test es) (sym (over_cond (option_map (map (abbreviation_at bits))) (test e.0) (Some e.1) (lookup test es)))

pub given_at : (bits : List Bool) (rows : List (ℕ × List ℕ)) (id : ℕ) → given_to (map (row_at bits) rows) id ≡ map (abbreviation_at bits) (unwrap_or (lookup (is_at (nat_cmp id)) rows) [])
given_at bits rows id = rw (lookup_at bits (is_at (nat_cmp id)) rows) (of_option (lookup (is_at (nat_cmp id)) rows)) where
  of_option : (o : Option (List ℕ)) → unwrap_or (option_map (map (abbreviation_at bits)) o) [] ≡ map (abbreviation_at bits) (unwrap_or o [])
  of_option None = refl
  of_option (Some l) = refl

pub remove_at : (bits : List Bool) (test : ℕ → Bool) (rows : List (ℕ × List ℕ)) → map (row_at bits) (remove_entry test rows) ≡ remove_entry test (map (row_at bits) rows)
remove_at bits test [] = refl
remove_at bits test (e ∷ es) = over_cond (map (row_at bits)) (test e.0) es (e ∷ remove_entry test es) ∙ rw (remove_at bits test es) refl

pub insert_at : (bits : List Bool) (rows : List (ℕ × List ℕ)) (id : ℕ) (l : List ℕ) → map (row_at bits) (insert_entry nat_cmp rows id l) ≡ insert_entry nat_cmp (map (row_at bits) rows) id (map (abbreviation_at bits) l)
insert_at bits [] id l = refl
insert_at bits (e ∷ es) id l = over_ordering (map (row_at bits)) (nat_cmp id e.0) ((id, l) ∷ e ∷ es) ((e.0, l) ∷ es) (e ∷ insert_entry nat_cmp es id l) ∙ rw (insert_at bits es id l) refl

pub get_at : {A B : Type 0} (f : A → B) (xs : List A) (k : ℕ) → slice_get (map f xs) k ≡ option_map f (slice_get xs k)
get_at f [] k = refl
get_at f (x ∷ xs) zero = refl
get_at f (x ∷ xs) (suc k) = get_at f xs k

pub length_at : {A B : Type 0} (f : A → B) (xs : List A) → length (map f xs) ≡ length xs
length_at f [] = refl
length_at f (x ∷ xs) = ap suc (length_at f xs)
