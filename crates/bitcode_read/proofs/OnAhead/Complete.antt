-- All entries that the records declare, where there are as many as the records name.
use Rattle.std.proofs.Common.{◌≡◌, ◌≤◌, ◌+◌, ℕ, suc, Bool, true, false, cond, List, [], ◌∷◌, ◌++◌, length, inl, inr, refl, ap, ◌∙◌, arith, length-append}
use Rattle.std.specs.Prelude.{nat_eq}
use Rattle.std.proofs.lemmas.Bool.{eqb-true}
use Rattle.module_arena.specs.declared.entry.LocalName.{LocalName}
use Rattle.module_arena.specs.Changes.{with_variable, with_function, with_alias}
use Rattle.module_arena.specs.Lists.{Lists}
use Rattle.record_table.specs.Faults.{Records, no_more, a_block, a_record}
use Rattle.record_table.specs.Fields.{Texts, name}
use Rattle.record_table.specs.Layout.{judged}
use Rattle.record_table.specs.Records.{names_of}
use Rattle.bitcode_read.specs.Head.Fronts.{alias_front, function_front, variable_front}
use Rattle.bitcode_read.specs.Ahead.Entries.{Declares, DeclaresOne, Declaring, a_function, a_variable, an_alias, alias_entry, declaring, front_of, function_entry, names_behind, names_for, nothing, variable_entry}

-- as many entries are there as these in front and the records behind them
pub record HasAll (texts : Texts) (a final : Lists) (rest : Records) : Type 0 where
  pub variables : length a.variables + length (names_of texts 5 rest) ≤ length final.variables
  pub functions : length a.functions + length (names_of texts 6 rest) ≤ length final.functions
  pub aliases : length a.aliases + length (names_of texts 7 rest) ≤ length final.aliases

-- one more, or none
abbrev one_if : Bool → ℕ → ℕ
one_if true n = suc n
one_if false n = n

many : (texts : Texts) (k code : ℕ) (operands : List ℕ) (behind : Records) → length (names_of texts k (a_record code operands behind)) ≡ one_if (nat_eq code k) (length (names_of texts k behind))
many texts k code operands behind = by (nat_eq code k)
  where
    by : (b : Bool) → length (cond b ((judged (name texts) operands).0 ∷ names_of texts k behind) (names_of texts k behind)) ≡ one_if b (length (names_of texts k behind))
    by true = refl
    by false = refl

module _ (texts : Texts) (types : ℕ) where
  -- an entry more
  abbrev with_one : List (List LocalName) → Lists → List ℕ → (List (List LocalName) → Lists → Lists) → Declaring → Lists
  with_one names a operands behind a_variable = behind names (with_variable a (variable_entry (front_of (variable_front texts types) operands).0))
  with_one names a operands behind a_function =
      let front = front_of (function_front texts types) operands in behind (names_behind front.0.1.1.0 names) (with_function a (function_entry (names_for front.0.1.1.0 names) front.0))
  with_one names a operands behind an_alias = behind names (with_alias a (alias_entry (front_of (alias_front texts types) operands).0))
  with_one names a operands behind nothing = behind names a

  -- the entries in front and all that the records declare behind them
  abbrev pub with_all : List (List LocalName) → Lists → Records → Lists
  with_all names a no_more = a
  with_all names a (a_block id inside behind) = with_all names a behind
  with_all names a (a_record code operands behind) = with_one names a operands (λ later after. with_all later after behind) (declaring code)

  -- what is counted behind a record
  has_on : (final a after : Lists) (code : ℕ) (operands : List ℕ) (behind : Records) (v f x : Bool) → nat_eq code 5 ≡ v → nat_eq code 6 ≡ f → nat_eq code 7 ≡ x → length after.variables ≡ one_if v (length a.variables) → length after.functions ≡ one_if f (length a.functions)
      → length after.aliases ≡ one_if x (length a.aliases) → HasAll texts a final (a_record code operands behind) → HasAll texts after final behind
  has_on final a after code operands behind v f x ev ef ex lv lf lx h = record {
    variables = on v (length a.variables) (length after.variables) (length (names_of texts 5 behind)) (length (names_of texts 5 (a_record code operands behind))) (length final.variables) lv (many texts 5 code operands behind ∙ ap (λ b. one_if b (length (names_of texts 5 behind))) ev) h.variables;
    functions = on f (length a.functions) (length after.functions) (length (names_of texts 6 behind)) (length (names_of texts 6 (a_record code operands behind))) (length final.functions) lf (many texts 6 code operands behind ∙ ap (λ b. one_if b (length (names_of texts 6 behind))) ef) h.functions;
    aliases = on x (length a.aliases) (length after.aliases) (length (names_of texts 7 behind)) (length (names_of texts 7 (a_record code operands behind))) (length final.aliases) lx (many texts 7 code operands behind ∙ ap (λ b. one_if b (length (names_of texts 7 behind))) ex) h.aliases;
  }
    where
      on : (b : Bool) (l m n k t : ℕ) → m ≡ one_if b l → k ≡ one_if b n → l + k ≤ t → m + n ≤ t
      on true l m n k t e g le = omega arith
      on false l m n k t e g le = omega arith

  one_longer : {A : Type 0} (xs : List A) (x : A) → length (xs ++ x ∷ []) ≡ suc (length xs)
  one_longer xs x = let e = length-append xs (x ∷ []) in omega arith

  -- Where there are as many entries as the records name, all of these are declared.
  pub all_declared : (names : List (List LocalName)) (a final : Lists) (rest : Records) → Declares texts types final names a rest → HasAll texts a final rest → final ≡ with_all names a rest
  all_declared names a final no_more d h = d
  all_declared names a final (a_block id inside behind) d h = all_declared names a final behind d (record { variables = h.variables; functions = h.functions; aliases = h.aliases })
  all_declared names a final (a_record code operands behind) d h = by (nat_eq code 5) (nat_eq code 6) (nat_eq code 7) refl refl refl d (λ later after on has. all_declared later after final behind on has)
    where
      no_room : (l n k t : ℕ) → k ≡ suc n → l + k ≤ t → t ≡ l → ⊥
      no_room l n k t e le is = omega arith

      not_six : code ≡ 5 → nat_eq code 6 ≡ false
      not_six e = ap (λ c. nat_eq c 6) e

      not_seven : code ≡ 5 → nat_eq code 7 ≡ false
      not_seven e = ap (λ c. nat_eq c 7) e

      by : (v f x : Bool) → nat_eq code 5 ≡ v → nat_eq code 6 ≡ f → nat_eq code 7 ≡ x
          → DeclaresOne texts types final names a operands (λ later after. Declares texts types final later after behind) (cond v a_variable (cond f a_function (cond x an_alias nothing)))
          → ((later : List (List LocalName)) (after : Lists) → Declares texts types final later after behind → HasAll texts after final behind → final ≡ with_all later after behind)
          → final ≡ with_one names a operands (λ later after. with_all later after behind) (cond v a_variable (cond f a_function (cond x an_alias nothing)))
      by true f x ev ef ex (inl r) go =
          absurd (no_room (length a.variables) (length (names_of texts 5 behind)) (length (names_of texts 5 (a_record code operands behind))) (length final.variables) (many texts 5 code operands behind ∙ ap (λ b. one_if b (length (names_of texts 5 behind))) ev) h.variables (ap (λ (z : Lists). length z.variables) r.stays))
      by true f x ev ef ex (inr on) go =
          go names (with_variable a (variable_entry (front_of (variable_front texts types) operands).0)) on (has_on final a (with_variable a (variable_entry (front_of (variable_front texts types) operands).0)) code operands behind true false false ev (not_six (eqb-true code 5 ev)) (not_seven (eqb-true code 5 ev)) (one_longer a.variables _) refl refl h)
      by false true x ev ef ex (inl r) go =
          absurd (no_room (length a.functions) (length (names_of texts 6 behind)) (length (names_of texts 6 (a_record code operands behind))) (length final.functions) (many texts 6 code operands behind ∙ ap (λ b. one_if b (length (names_of texts 6 behind))) ef) h.functions (ap (λ (z : Lists). length z.functions) r.stays))
      by false true x ev ef ex (inr on) go =
          let front = front_of (function_front texts types) operands in
          go (names_behind front.0.1.1.0 names) (with_function a (function_entry (names_for front.0.1.1.0 names) front.0)) on (has_on final a (with_function a (function_entry (names_for front.0.1.1.0 names) front.0)) code operands behind false true false ev ef (ap (λ c. nat_eq c 7) (eqb-true code 6 ef)) refl (one_longer a.functions _) refl h)
      by false false true ev ef ex (inl r) go =
          absurd (no_room (length a.aliases) (length (names_of texts 7 behind)) (length (names_of texts 7 (a_record code operands behind))) (length final.aliases) (many texts 7 code operands behind ∙ ap (λ b. one_if b (length (names_of texts 7 behind))) ex) h.aliases (ap (λ (z : Lists). length z.aliases) r.stays))
      by false false true ev ef ex (inr on) go =
          go names (with_alias a (alias_entry (front_of (alias_front texts types) operands).0)) on (has_on final a (with_alias a (alias_entry (front_of (alias_front texts types) operands).0)) code operands behind false false true ev ef ex refl refl (one_longer a.aliases _) h)
      by false false false ev ef ex on go = go names a on (has_on final a a code operands behind false false false ev ef ex refl refl refl h)
