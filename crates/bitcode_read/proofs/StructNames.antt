-- The names of a block of types that is read are good, and no two are the same.
use Rattle.std.proofs.Common.{◌≡◌, ℕ, suc, Bool, true, false, not, ◌&&◌, cond, List, [], ◌∷◌, ◌++◌, length, Option, Some, None, bytes_eq, nat_eq, nat_lt, inl, inr, refl, sym, ap, subst, ◌∙◌, append_assoc, append-nil}
use Rattle.std.specs.Prelude.{Ok, Err, ◌==◌}
use Rattle.std.specs.List.{list_all, list_any}
use Rattle.std.proofs.lemmas.Bool.{and_parts, eqb-true, not-true}
use Rattle.type_table.specs.Types.{Types, with_body, with_type, KnowsBody}
use Rattle.module_arena.specs.Module.{Bytes}
use Rattle.module_arena.specs.Names as arena
use Rattle.record_table.specs.Faults.{Answer, Records, UnknownRecord, a_block, a_record, also, is_block_id, no_more}
use Rattle.record_table.specs.Fields.{Texts}
use Rattle.record_table.specs.Layout.{judged}
use Rattle.record_table.specs.TypeRecords.{TypeKind, Listed, all_fit, are_distinct, at_first, definition, ir_type, kind_of_code, kinds, listed, listed_by, listed_from, names_in, struct_record, type_record}
use Rattle.record_law.proofs.OnLabels.Kept.{unless_ok, also_held}
use Rattle.record_read.specs.Fields.{are_bytes}
use Rattle.type_read.specs.Fields.{is_good}
use Rattle.type_read.specs.Listed.{FindsBad, IsBad, are_good}
use Rattle.type_read.proofs.Good.{distinct_new, good_push}
use Rattle.record_law.proofs.OnFormed.Records.{never_misplaced, then_ok}
use Rattle.record_law.proofs.OnFormed.Texts.{HoldsTexts, name_again}
use Rattle.record_law.proofs.OnFormed.TypeRecords.{definition_read, name_ahead}
use Rattle.record_law.proofs.OnFormed.Unbroken.{judged_read}

module _ (t : Texts) (holds : HoldsTexts t) (good_of : (n : Bytes) → arena.is_name n ≡ true → is_good n ≡ true) (all : List Bytes) where
  record IsSoFar (rest : Records) (s : Listed) : Type 0 where
    pub texts : s.texts ≡ t
    pub split : all ≡ s.names ++ names_in t rest
    pub good : are_good s.names ≡ true

  not_seven : (code : ℕ) (kind : TypeKind) → kind_of_code code kinds ≡ Some kind → nat_eq code 7 ≡ false
  not_seven code kind h = by (nat_eq code 7) refl
    where
      never : kind_of_code 7 kinds ≡ Some kind → ⊥
      never e = cc

      by : (b : Bool) → nat_eq code 7 ≡ b → b ≡ false
      by false e = refl
      by true e = absurd (never (subst (λ c. kind_of_code c kinds ≡ Some kind) (eqb-true code 7 e) h))

  on_type : (s u : Listed) (code : ℕ) (operands : List ℕ) (behind : Records) (kind : TypeKind) → kind_of_code code kinds ≡ Some kind → IsSoFar (a_record code operands behind) s
      → type_record s (judged (ir_type (length s.types.types) (length s.types.structs) kind) operands) ≡ Ok u → IsSoFar behind u
  on_type s u code operands behind kind of h e =
      let x = judged (ir_type (length s.types.types) (length s.types.structs) kind) operands in
      let after : Types = with_type s.types x.0 in
      let made : Listed = record s { at = suc s.at; types = after } in
      let one = unless_ok 17 s.at (also 7 (all_fit after) (also 5 (length s.names == 0) x.1)) made u e in
      subst (λ (v : Listed). IsSoFar behind v) one.1 (record {
        texts = h.texts;
        split = h.split ∙ ap (λ b. s.names ++ cond b ((judged (definition t 0) operands).0.1 ∷ names_in t behind) (names_in t behind)) (not_seven code kind of);
        good = h.good;
      })

  on_struct : (s u : Listed) (code : ℕ) (operands : List ℕ) (behind : Records) → nat_eq code 7 ≡ true → IsSoFar (a_record code operands behind) s → struct_record s (judged (definition s.texts (length s.types.types)) operands) ≡ Ok u → IsSoFar behind u
  on_struct s u code operands behind is h e =
      let count = length s.types.types in
      let x = judged (definition s.texts count) operands in
      let after : Types = with_body s.types (length s.names) x.0.0 in
      let made : Listed = record s { at = suc s.at; types = after; names = s.names ++ x.0.1 ∷ [] } in
      let is_new = not (list_any (bytes_eq x.0.1) s.names) in
      let one = unless_ok 17 s.at (also 7 (all_fit after && nat_lt (length s.names) 0x4_0000) (also 4 is_new x.1)) made u e in
      let seven = also_held 7 (all_fit after && nat_lt (length s.names) 0x4_0000) (also 4 is_new x.1) one.0 in
      let four = also_held 4 is_new x.1 seven.1 in
      let texts : HoldsTexts s.texts = subst HoldsTexts (sym h.texts) holds in
      let d = judged_read (λ x. KnowsBody count (Some x.0) × (arena.is_name x.1 ≡ true)) (definition s.texts count) (definition_read s.texts texts count) operands four.1 in
      let ahead : (judged (definition t 0) operands).0.1 ≡ x.0.1 = ap (λ y. (judged (definition y 0) operands).0.1) (sym h.texts) ∙ name_ahead s.texts texts 0 count operands in
      subst (λ (v : Listed). IsSoFar behind v) one.1 (record {
        texts = h.texts;
        split = h.split ∙ (ap (λ b. s.names ++ cond b ((judged (definition t 0) operands).0.1 ∷ names_in t behind) (names_in t behind)) is
            ∙ (ap (λ n. s.names ++ (n ∷ names_in t behind)) ahead ∙ sym (append_assoc s.names (x.0.1 ∷ []) (names_in t behind))));
        good = good_push s.names x.0.1 h.good (good_of x.0.1 d.1) (not-true (list_any (bytes_eq x.0.1) s.names) four.0);
      })

  on_record : (s u : Listed) (code : ℕ) (operands : List ℕ) (behind : Records) → IsSoFar (a_record code operands behind) s → listed_by s code operands (kind_of_code code kinds) ≡ Ok u → IsSoFar behind u
  on_record s u code operands behind h e = by (kind_of_code code kinds) refl e
    where
      seven : (b : Bool) → nat_eq code 7 ≡ b → cond {A = Answer Listed} b (struct_record s (judged (definition s.texts (length s.types.types)) operands)) (Err (UnknownRecord 17 code)) ≡ Ok u → IsSoFar behind u
      seven true is e = on_struct s u code operands behind is h e
      seven false is e = absurd (cc)

      by : (o : Option TypeKind) → kind_of_code code kinds ≡ o → listed_by s code operands o ≡ Ok u → IsSoFar behind u
      by (Some kind) of e = on_type s u code operands behind kind of h e
      by None of e = seven (nat_eq code 7) refl e

  all_good : (s u : Listed) (rest : Records) → IsSoFar rest s → listed_from s rest ≡ Ok u → are_good all ≡ true
  all_good s u no_more h e = subst (λ (ns : List Bytes). are_good ns ≡ true) (sym (h.split ∙ append-nil s.names)) h.good
  all_good s u (a_block id inside behind) h e = absurd (never_misplaced id s.at (is_block_id id) u e)
  all_good s u (a_record code operands behind) h e = by (λ v h e. all_good v u behind h e)
    where
      by : ((v : Listed) → IsSoFar behind v → listed_from v behind ≡ Ok u → are_good all ≡ true) → are_good all ≡ true
      by on = let x = then_ok (listed_by s code operands (kind_of_code code kinds)) (λ v. listed_from v behind) u e in on x.0 (on_record s x.0 code operands behind h x.1.0) x.1.1

pub names_good : (t : Texts) → HoldsTexts t → ((n : Bytes) → arena.is_name n ≡ true → is_good n ≡ true) → (at : ℕ) (inside : Records) (u : Listed) → listed t at inside ≡ Ok u → are_good (names_in t inside) ≡ true
names_good t holds good_of at inside u e = all_good t holds good_of (names_in t inside) (at_first t at inside) u inside (record { texts = refl; split = refl; good = refl }) e

-- no bad name is first among good ones
pub none_bad : (found : Option ℕ) (all : List Bytes) → FindsBad found all → are_good all ≡ true → found ≡ None
none_bad None all h good = refl
none_bad (Some place) all h good = absurd (by h.bad)
  where
    parts : (list_all is_good all ≡ true) × (are_distinct all ≡ true)
    parts = and_parts (list_all is_good all) (are_distinct all) good

    in_middle : (front back : List Bytes) (x : Bytes) → list_all is_good (front ++ x ∷ back) ≡ true → is_good x ≡ true
    in_middle [] back x h = (and_parts (is_good x) (list_all is_good back) h).0
    in_middle (y ∷ front) back x h = in_middle front back x (and_parts (is_good y) (list_all is_good (front ++ x ∷ back)) h).1

    by : IsBad h.before h.name → ⊥
    by (inl bad) = let fine = in_middle h.before h.behind h.name (subst (λ (ns : List Bytes). list_all is_good ns ≡ true) h.all_is parts.0) in cc
    by (inr there) = let new = distinct_new h.before h.behind h.name (subst (λ (ns : List Bytes). are_distinct ns ≡ true) h.all_is parts.1) in cc

bytes_of : (n : Bytes) → list_all (λ c. nat_lt 0 c && nat_lt c 256) n ≡ true → are_bytes n ≡ true
bytes_of [] h = refl
bytes_of (b ∷ n) h =
    let p = and_parts (nat_lt 0 b && nat_lt b 256) (list_all (λ c. nat_lt 0 c && nat_lt c 256) n) h in
    let q = and_parts (nat_lt 0 b) (nat_lt b 256) p.0 in
    λ j. q.1 j && bytes_of n p.1 j

-- what may be the name of a struct is good
pub good_name : (n : Bytes) → arena.is_name n ≡ true → is_good n ≡ true
good_name [] h = absurd (cc)
good_name (b ∷ n) h = λ j. name_again (b ∷ n) h j && bytes_of (b ∷ n) h j
