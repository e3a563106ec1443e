-- The body of a struct, read one field behind the other.
use Rattle.std.proofs.Common.{◌≡◌, ◌<◌, ◌||◌, ◌==◌, ℕ, zero, suc, Bool, true, false, List, [], ◌∷◌, Option, Some, None, length, refl, sym, ap, subst, ◌∙◌, arith, All}
use Rattle.std.specs.Prelude.{nat_lt}
use Rattle.std.proofs.lemmas.Bool.{ne_eqb}
use Rattle.type_table.specs.declared.ir_type.StructBody.{StructBody}
use Rattle.type_table.specs.Types.{KnowsBody}
use Rattle.record_table.specs.Walk.{Walk, going, stopped, next, ask}
use Rattle.record_table.specs.Layout.{Layout, number, many, times}
use Rattle.record_table.specs.Fields.{below}
use Rattle.record_table.specs.TypeRecords.{earlier, struct_body, body_by}
use Rattle.record_read.specs.Reader.{Reader, Reads, ReadsAs, IsKept, is_broken}
use Rattle.type_read.specs.Fields.{AreBelow, IsBodyOf}

-- the same, seen from a reader whose walk stands there
pub record Behind {A B : Type 0} (means : B → A → Type 0) (l : Layout A) (old : Reader) (w : Walk) (now : Reader) (answer : Option B) : Type 0 where
  pub kept : IsKept means answer (l.read w).0 now.walk
  pub reader : now ≡ record old { walk = (l.read w).1 }

pub behind : {A B : Type 0} (means : B → A → Type 0) (l : Layout A) (old mid now : Reader) (w : Walk) (answer : Option B) → mid ≡ record old { walk = w } → ReadsAs means l mid now answer → Behind means l old w now answer
behind means l old mid now w answer is h = record {
  kept = subst (λ v. IsKept means answer (l.read v).0 now.walk) (ap (λ (r : Reader). r.walk) is) h.kept;
  reader = h.reader ∙ ap (λ (r : Reader). record r { walk = (l.read r.walk).1 }) is;
}

no_zero : (k : ℕ) → (suc k == 0) ≡ false
no_zero k = ne_eqb (suc k) 0 (λ e. omega (arith, e))

-- how many values are read is 0 only where none was to be
none_many : {A : Type 0} (one : Walk → A × Walk) (w : Walk) → (length (many one (next w).0 (next w).1).0 == 0) ≡ ((next w).0 == 0)
unfolding next many
none_many one (going [] broken) = refl
none_many one (going (zero ∷ rest) broken) = refl
none_many one (going (suc n ∷ rest) broken) = no_zero (length (many one n (one (going rest broken)).1).0) ∙ sym (no_zero n)
none_many one (stopped broken) = refl

module _ (count : ℕ) (old first second third now : Reader) (code size : ℕ) (h : Reads (below 3) old first code) (s : Reads number first second size)
    (asked : now ≡ record third { walk = ask 3 (nat_lt code 2 || (size == 0)) third.walk }) where
  first_walk : first.walk ≡ ((below 3).read old.walk).1
  first_walk = ap (λ (r : Reader). r.walk) h.reader

  size_is : size ≡ (next ((below 3).read old.walk).1).0
  size_is = s.value ∙ ap (λ w. (next w).0) first_walk

  second_is : second ≡ record old { walk = (next ((below 3).read old.walk).1).1 }
  second_is = s.reader ∙ ap (λ (r : Reader). record r { walk = (next r.walk).1 }) h.reader

  -- the fields
  fields_behind : (fields : Option (List ℕ)) → ReadsAs (AreBelow count) (times size (earlier count)) second third fields
      → Behind (AreBelow count) (times (next ((below 3).read old.walk).1).0 (earlier count)) old (next ((below 3).read old.walk).1).1 third fields
  fields_behind fields k =
      behind (AreBelow count) (times (next ((below 3).read old.walk).1).0 (earlier count)) old second third (next ((below 3).read old.walk).1).1 fields second_is
      (subst (λ n. ReadsAs (AreBelow count) (times n (earlier count)) second third fields) size_is k)

  abbrev read_list : List ℕ
  read_list = (many (earlier count).read (next ((below 3).read old.walk).1).0 (next ((below 3).read old.walk).1).1).0

  test_is : (nat_lt code 2 || (size == 0)) ≡ (nat_lt ((below 3).read old.walk).0 2 || (length read_list == 0))
  test_is = λ j. nat_lt (h.value j) 2 || (ap (λ n. n == 0) size_is ∙ sym (none_many (earlier count).read ((below 3).read old.walk).1)) j

  reader_is : (fields : Option (List ℕ)) → ReadsAs (AreBelow count) (times size (earlier count)) second third fields → now ≡ record old { walk = ((struct_body count).read old.walk).1 }
  reader_is fields k =
      asked
      ∙ (ap (λ (r : Reader). record r { walk = ask 3 (nat_lt code 2 || (size == 0)) r.walk }) (fields_behind fields k).reader
      ∙ ap (λ b. record old { walk = ask 3 b (many (earlier count).read (next ((below 3).read old.walk).1).0 (next ((below 3).read old.walk).1).1).1 }) test_is)

  knows : (n : ℕ) (ts : List ℕ) → All (λ ty. ty < count) ts → KnowsBody count (Some (body_by n ts))
  knows zero ts all = all
  knows (suc zero) ts all = all
  knows (suc (suc n)) ts all = tt

  pub body_some : (ts : List ℕ) (body : StructBody) → ReadsAs (AreBelow count) (times size (earlier count)) second third (Some ts) → body ≡ body_by code ts → ReadsAs (IsBodyOf count) (struct_body count) old now (Some body)
  body_some ts body k is =
      let b = fields_behind (Some ts) k in
      record {
        kept = (is ∙ (λ j. body_by (h.value j) (b.kept.0 j)), subst (λ x. KnowsBody count (Some x)) (sym is) (knows code ts b.kept.1));
        reader = reader_is (Some ts) k;
      }

  pub body_none : ReadsAs (AreBelow count) (times size (earlier count)) second third None → ReadsAs (IsBodyOf count) (struct_body count) old now None
  body_none k =
      let broken : is_broken third.walk ≡ true = (fields_behind None k).kept in
      record { kept = ap (λ (r : Reader). is_broken r.walk) asked ∙ still (nat_lt code 2 || (size == 0)) third.walk broken; reader = reader_is None k }
    where
      still : (b : Bool) (w : Walk) → is_broken w ≡ true → is_broken (ask 3 b w) ≡ true
      still true w e = e
      still false (going rest None) e = absurd (cc)
      still false (going rest (Some r)) e = refl
      still false (stopped broken) e = e
