-- A module's block, record by record and block by block: what was read stays good.
use Rattle.std.proofs.Common.{◌≡◌, ◌<◌, ◌≤◌, ◌+◌, ℕ, suc, max, Bool, true, false, not, ◌&&◌, cond, List, [], ◌∷◌, ◌++◌, length, map, Option, Some, None, nat_lt, nat_le, nat_eq, bytes_eq, refl, sym, ap, subst, ◌∙◌, arith, ◌⊎◌, inl, inr, append_assoc, append-nil}
use Rattle.std.specs.Prelude.{Ok, Err}
use Rattle.std.specs.List.{list_all, list_any, AllByRecursion}
use Rattle.std.proofs.lemmas.Bool.{and_parts, eqb-true, leb-true, ltb-true}
use Rattle.std.proofs.lemmas.List.{length-append, map-append}
use Rattle.ir_tables.specs.Table.{is_distinct}
use Rattle.type_table.specs.Types.{structs, trees}
use Rattle.module_arena.specs.Module.{Bytes, Variable, Alias, Function, Module}
use Rattle.module_arena.specs.Names.{are_bytes}
use Rattle.module_arena.specs.WellFormed.{has_entry}
use Rattle.record_table.specs.Bodies.{Begun, body}
use Rattle.record_table.specs.Faults.{Answer, ◌>>=◌, Records, a_block, a_record, BadRecord, BadVersion, UnknownRecord, also, is_block_id}
use Rattle.record_table.specs.Fields.{Texts, name}
use Rattle.record_table.specs.Layout.{judged}
use Rattle.record_table.specs.Records.{Sofar, alias, alias_record, block_in, body_block, first_due, function, function_record, give_body, is_new, is_version, may_follow, names_of, record_at_place, record_in, text_record, types_block, variable, variable_record, version, version_record}
use Rattle.record_table.specs.TypeRecords.{listed}
use Rattle.record_law.proofs.OnLabels.Kept.{also_held}
use Rattle.record_law.proofs.OnFormed.Good.{AreTexts}
use Rattle.record_law.proofs.OnFormed.Tests.{both_of, distinct_with}
use Rattle.record_law.proofs.OnFormed.Texts.{texts_hold}
use Rattle.record_law.proofs.OnFormed.Types.{new_name, types_are_good}
use Rattle.record_law.proofs.OnFormed.Unbroken.{judged_read}
use Rattle.record_law.proofs.OnFormed.Bodies.{body_good}
use Rattle.record_law.proofs.OnFormed.Entries.{IsAlias, IsFunction, IsVariable, alias_read, body_given, function_read, variable_read}
use Rattle.record_law.proofs.OnFormed.Lists.{all_front, each_given, many_kept, names_kept, none_both, none_named}
use Rattle.record_law.proofs.OnFormed.Sofar.{AreGood, HasTexts, IsEmpty, IsSoFar, aliases_named, functions_named, is_placed, variables_named}

-- what is gone on with was answered
pub then_ok : {A B : Type 0} (a : Answer A) (f : A → Answer B) (u : B) → (a >>= f) ≡ Ok u → (x : A) × ((a ≡ Ok x) × (f x ≡ Ok u))
then_ok (Ok x) f u e = (x, (refl, e))
then_ok (Err fault) f u e = absurd (cc)

-- what is answered is one
ok_same : {A : Type 0} (x : A) (a : Answer A) (y : A) → a ≡ Ok x → a ≡ Ok y → x ≡ y
ok_same x a y p q = cc

-- no block stands where none may
pub never_misplaced : {A : Type 0} (id at : ℕ) (b : Bool) (u : A) → cond {A = Answer A} b (Err (BadRecord id at 5)) (Err (UnknownRecord id 0)) ≡ Ok u → ⊥
never_misplaced id at true u e = cc
never_misplaced id at false u e = cc

low : (last place : ℕ) → (nat_le 1 last && nat_lt last place) ≡ true → last < place
low last place h = ltb-true last place (and_parts (nat_le 1 last) (nat_lt last place) h).1

high : (last place : ℕ) → (nat_le 5 last && nat_le last place) ≡ true → (5 ≤ last) × (last ≤ place)
high last place h = let p = and_parts (nat_le 5 last) (nat_le last place) h in (leb-true 5 last p.0, leb-true last place p.1)

empty_good : (m : Module) (s : Sofar) → IsEmpty s → AreGood m s
empty_good m s h = record {
  variables = subst (λ (vs : List Variable). AllByRecursion (IsVariable m) vs) (sym h.variables) tt;
  functions = subst (λ (fs : List (Bool × Function)). AllByRecursion (IsFunction m) fs) (sym h.functions) tt;
  aliases = subst (λ (as_ : List Alias). AllByRecursion (IsAlias m) as_) (sym h.aliases) tt;
}

-- a name that is none of those that are there
record IsFree (s : Sofar) (n : Bytes) : Type 0 where
  pub variables : list_any (bytes_eq n) (variables_named s) ≡ false
  pub functions : list_any (bytes_eq n) (functions_named s) ≡ false
  pub aliases : list_any (bytes_eq n) (aliases_named s) ≡ false

free_of : (s : Sofar) (n : Bytes) → is_new s n ≡ true → IsFree s n
free_of s n h =
    let v = not (list_any (λ (v : Variable). bytes_eq n v.name) s.variables) in
    let f = not (list_any (λ (f : Bool × Function). bytes_eq n f.1.name) s.functions) in
    let p = and_parts (v && f) (not (list_any (λ (a : Alias). bytes_eq n a.name) s.aliases)) h in
    let q = and_parts v f p.0 in
    record {
      variables = none_named (λ (v : Variable). v.name) n s.variables q.0;
      functions = none_named (λ (f : Bool × Function). f.1.name) n s.functions q.1;
      aliases = none_named (λ (a : Alias). a.name) n s.aliases p.1;
    }

-- the name that is ahead is that in the record
ahead_is : (t u : Texts) (operands : List ℕ) → u ≡ t → (judged (name t) operands).0 ≡ (judged (name u) operands).0
ahead_is t u operands same = ap (λ (y : Texts). (judged (name y) operands).0) (sym same)

-- one more name behind some
one_more : {A : Type 0} (f : A → Bytes) (xs : List A) (x : A) (rest : List Bytes) → map f (xs ++ x ∷ []) ++ rest ≡ map f xs ++ (f x ∷ rest)
one_more f xs x rest = ap (λ (ns : List Bytes). ns ++ rest) (map-append f xs (x ∷ [])) ∙ append_assoc (map f xs) (f x ∷ []) rest

module _ (t : Texts) (are : AreTexts t) (all : Records) where
  texts_of_all : (s : Sofar) → s.texts ≡ t → AreTexts s.texts
  texts_of_all s same = subst AreTexts (sym same) are

  -- ---- the version and the texts of the module

  early_step : (s : Sofar) (source layout triple : Option Bytes) (at last : ℕ) (rest behind : Records) → IsSoFar t all rest s → s.last < 5 → last < 5
      → HasTexts (record s { source = source; layout = layout; triple = triple })
      → names_of t 5 rest ≡ names_of t 5 behind → names_of t 6 rest ≡ names_of t 6 behind → names_of t 7 rest ≡ names_of t 7 behind
      → IsSoFar t all behind (record s { at = at; last = last; source = source; layout = layout; triple = triple })
  early_step s source layout triple at last rest behind h before after texts five six seven =
      let made : Sofar = record s { at = at; last = last; source = source; layout = layout; triple = triple } in
      let none = h.early before in
      let empty : IsEmpty made = record { variables = none.variables; functions = none.functions; aliases = none.aliases } in
      record {
        texts_are = h.texts_are;
        targets_are = h.targets_are;
        globals_are = h.globals_are;
        named = record {
          variables = h.named.variables ∙ ap (λ (ns : List Bytes). variables_named s ++ ns) five;
          functions = h.named.functions ∙ ap (λ (ns : List Bytes). functions_named s ++ ns) six;
          aliases = h.named.aliases ∙ ap (λ (ns : List Bytes). aliases_named s ++ ns) seven;
        };
        distinct = h.distinct;
        texts_good = record { source = texts.source; layout = texts.layout; triple = texts.triple };
        few = record { variables = h.few.variables; functions = h.few.functions; aliases = h.few.aliases };
        good = λ m of. empty_good m made empty;
        early = λ less. empty;
        alone = λ less. none.aliases;
        late = λ more. absurd (omega (arith, more, after));
      }

  version_step : (s u : Sofar) (operands : List ℕ) (behind : Records) (broken : Option ℕ) → IsSoFar t all (a_record 1 operands behind) s → record_at_place s 1 broken s ≡ Ok u → IsSoFar t all behind u
  version_step s u operands behind broken h e =
      let d = is_placed s 1 broken s u e in
      let first : s.last ≡ 0 = eqb-true s.last 0 d.may in
      subst (IsSoFar t all behind) d.same
      (early_step s s.source s.layout s.triple (suc s.at) 1 (a_record 1 operands behind) behind h (omega (arith, first)) (omega arith)
      (record { source = h.texts_good.source; layout = h.texts_good.layout; triple = h.texts_good.triple }) refl refl refl)

  version_by : (s u : Sofar) (operands : List ℕ) (behind : Records) → IsSoFar t all (a_record 1 operands behind) s → version_record s operands ≡ Ok u → IsSoFar t all behind u
  version_by s u [] behind h e = version_step s u [] behind (judged version []).1 h e
  version_by s u (n ∷ []) behind h e = by (nat_eq s.last 0 && not (is_version n)) e
    where
      by : (b : Bool) → cond {A = Answer Sofar} b (Err (BadVersion n)) (record_at_place s 1 (also 5 (nat_eq n s.texts.version) None) s) ≡ Ok u → IsSoFar t all behind u
      by true e = absurd (cc)
      by false e = version_step s u (n ∷ []) behind (also 5 (nat_eq n s.texts.version) None) h e
  version_by s u (n ∷ m ∷ operands) behind h e = version_step s u (n ∷ m ∷ operands) behind (judged version (n ∷ m ∷ operands)).1 h e

  text_good : (s : Sofar) (operands : List ℕ) → s.texts ≡ t → (judged s.texts.last operands).1 ≡ None → are_bytes (judged s.texts.last operands).0 ≡ true
  text_good s operands same unbroken = judged_read (λ b. are_bytes b ≡ true) s.texts.last (texts_hold s.texts (texts_of_all s same)).last operands unbroken

  source_step : (s u : Sofar) (operands : List ℕ) (behind : Records) → IsSoFar t all (a_record 2 operands behind) s → text_record s 2 operands (λ x. record s { source = x }) ≡ Ok u → IsSoFar t all behind u
  source_step s u operands behind h e =
      let x = judged s.texts.last operands in
      let d = is_placed s 2 x.1 (record s { source = Some x.0 }) u e in
      let before : s.last < 2 = low s.last 2 d.may in
      subst (IsSoFar t all behind) d.same
      (early_step s (Some x.0) s.layout s.triple (suc s.at) 2 (a_record 2 operands behind) behind h (omega (arith, before)) (omega arith)
      (record { source = text_good s operands h.texts_are d.unbroken; layout = h.texts_good.layout; triple = h.texts_good.triple }) refl refl refl)

  layout_step : (s u : Sofar) (operands : List ℕ) (behind : Records) → IsSoFar t all (a_record 3 operands behind) s → text_record s 3 operands (λ x. record s { layout = x }) ≡ Ok u → IsSoFar t all behind u
  layout_step s u operands behind h e =
      let x = judged s.texts.last operands in
      let d = is_placed s 3 x.1 (record s { layout = Some x.0 }) u e in
      let before : s.last < 3 = low s.last 3 d.may in
      subst (IsSoFar t all behind) d.same
      (early_step s s.source (Some x.0) s.triple (suc s.at) 3 (a_record 3 operands behind) behind h (omega (arith, before)) (omega arith)
      (record { source = h.texts_good.source; layout = text_good s operands h.texts_are d.unbroken; triple = h.texts_good.triple }) refl refl refl)

  triple_step : (s u : Sofar) (operands : List ℕ) (behind : Records) → IsSoFar t all (a_record 4 operands behind) s → text_record s 4 operands (λ x. record s { triple = x }) ≡ Ok u → IsSoFar t all behind u
  triple_step s u operands behind h e =
      let x = judged s.texts.last operands in
      let d = is_placed s 4 x.1 (record s { triple = Some x.0 }) u e in
      let before : s.last < 4 = low s.last 4 d.may in
      subst (IsSoFar t all behind) d.same
      (early_step s s.source s.layout (Some x.0) (suc s.at) 4 (a_record 4 operands behind) behind h (omega (arith, before)) (omega arith)
      (record { source = h.texts_good.source; layout = h.texts_good.layout; triple = text_good s operands h.texts_are d.unbroken }) refl refl refl)

  -- ---- entries

  variable_step : (s u : Sofar) (operands : List ℕ) (behind : Records) → IsSoFar t all (a_record 5 operands behind) s → variable_record s (judged (variable s.texts s.k) operands) ≡ Ok u → IsSoFar t all behind u
  variable_step s u operands behind h e =
      let x = judged (variable s.texts s.k) operands in
      let n = x.0.name in
      let room = nat_lt (length s.variables) 0x4_0000 in
      let new : Sofar = record s { variables = s.variables ++ x.0 ∷ [] } in
      let d = is_placed s 6 (also 7 room (also 4 (is_new s n) x.1)) new u e in
      let seven = also_held 7 room (also 4 (is_new s n) x.1) d.unbroken in
      let four = also_held 4 (is_new s n) x.1 seven.1 in
      let may = high s.last 6 d.may in
      let free = free_of s n four.0 in
      let A = aliases_named s in
      let F = functions_named s in
      let less : length s.variables < 262144 = ltb-true (length s.variables) 0x4_0000 seven.0 in
      let size = length-append s.variables (x.0 ∷ []) in
      let last = may.1 in
      let none : s.aliases ≡ [] = h.alone (omega (arith, last)) in
      let texts = texts_hold s.texts (texts_of_all s h.texts_are) in
      subst (IsSoFar t all behind) d.same (record {
        texts_are = h.texts_are;
        targets_are = h.targets_are;
        globals_are = h.globals_are;
        named = record {
          variables = h.named.variables ∙ (ap (λ (b : Bytes). variables_named s ++ (b ∷ names_of t 5 behind)) (ahead_is t s.texts operands h.texts_are) ∙ sym (one_more (λ (v : Variable). v.name) s.variables x.0 (names_of t 5 behind)));
          functions = h.named.functions;
          aliases = h.named.aliases;
        };
        distinct = subst (λ (ns : List Bytes). is_distinct bytes_eq ns ≡ true) (sym (one_more (λ (v : Variable). v.name) s.variables x.0 (A ++ F)))
            (distinct_with bytes_eq (variables_named s) (A ++ F) n h.distinct (new_name n (variables_named s) free.variables) (none_both n A F free.aliases free.functions));
        texts_good = record { source = h.texts_good.source; layout = h.texts_good.layout; triple = h.texts_good.triple };
        few = record { variables = omega (arith, less, size); functions = h.few.functions; aliases = inl none };
        good = λ m of. let g = h.good m of in record {
          variables = both_of (IsVariable m) s.variables (x.0 ∷ []) g.variables (judged_read (IsVariable m) (variable s.texts s.k) (variable_read s.texts texts m s.k of) operands four.1, tt);
          functions = g.functions;
          aliases = g.aliases;
        };
        early = λ small. absurd (omega (arith, small));
        alone = λ small. none;
        late = λ more. let k = h.late may.0 in record { types_good = k.types_good; structs_good = k.structs_good; names_good = k.names_good; few = k.few };
      })

  function_step : (s u : Sofar) (operands : List ℕ) (behind : Records) → IsSoFar t all (a_record 6 operands behind) s → function_record s (judged (function s.texts s.k) operands) ≡ Ok u → IsSoFar t all behind u
  function_step s u operands behind h e =
      let x = judged (function s.texts s.k) operands in
      let n = x.0.1.name in
      let room = nat_lt (length s.functions) 0x4_0000 in
      let new : Sofar = record s { functions = s.functions ++ x.0 ∷ [] } in
      let d = is_placed s 7 (also 7 room (also 4 (is_new s n) x.1)) new u e in
      let seven = also_held 7 room (also 4 (is_new s n) x.1) d.unbroken in
      let four = also_held 4 (is_new s n) x.1 seven.1 in
      let may = high s.last 7 d.may in
      let free = free_of s n four.0 in
      let V = variables_named s in
      let A = aliases_named s in
      let F = functions_named s in
      let less : length s.functions < 262144 = ltb-true (length s.functions) 0x4_0000 seven.0 in
      let size = length-append s.functions (x.0 ∷ []) in
      let last = may.1 in
      let none : s.aliases ≡ [] = h.alone (omega (arith, last)) in
      let texts = texts_hold s.texts (texts_of_all s h.texts_are) in
      let order : V ++ (A ++ functions_named new) ≡ (V ++ (A ++ F)) ++ n ∷ [] =
      ap (λ (ns : List Bytes). V ++ (A ++ ns)) (map-append (λ (f : Bool × Function). f.1.name) s.functions (x.0 ∷ []))
      ∙ (ap (λ (ns : List Bytes). V ++ ns) (sym (append_assoc A F (n ∷ []))) ∙ sym (append_assoc V (A ++ F) (n ∷ []))) in
      let others = both_of (λ (o : Bytes). bytes_eq o n ≡ false) V (A ++ F) (new_name n V free.variables) (both_of (λ (o : Bytes). bytes_eq o n ≡ false) A F (new_name n A free.aliases) (new_name n F free.functions)) in
      subst (IsSoFar t all behind) d.same (record {
        texts_are = h.texts_are;
        targets_are = h.targets_are;
        globals_are = h.globals_are;
        named = record {
          variables = h.named.variables;
          functions = h.named.functions ∙ (ap (λ (b : Bytes). F ++ (b ∷ names_of t 6 behind)) (ahead_is t s.texts operands h.texts_are) ∙ sym (one_more (λ (f : Bool × Function). f.1.name) s.functions x.0 (names_of t 6 behind)));
          aliases = h.named.aliases;
        };
        distinct = subst (λ (ns : List Bytes). is_distinct bytes_eq ns ≡ true) (sym order)
            (distinct_with bytes_eq (V ++ (A ++ F)) [] n (subst (λ (ns : List Bytes). is_distinct bytes_eq ns ≡ true) (sym (append-nil (V ++ (A ++ F)))) h.distinct) others refl);
        texts_good = record { source = h.texts_good.source; layout = h.texts_good.layout; triple = h.texts_good.triple };
        few = record { variables = h.few.variables; functions = omega (arith, less, size); aliases = inl none };
        good = λ m of. let g = h.good m of in record {
          variables = g.variables;
          functions = both_of (IsFunction m) s.functions (x.0 ∷ []) g.functions (judged_read (IsFunction m) (function s.texts s.k) (function_read s.texts texts m s.k of) operands four.1, tt);
          aliases = g.aliases;
        };
        early = λ small. absurd (omega (arith, small));
        alone = λ small. none;
        late = λ more. let k = h.late may.0 in record { types_good = k.types_good; structs_good = k.structs_good; names_good = k.names_good; few = k.few };
      })

  alias_step : (s u : Sofar) (operands : List ℕ) (behind : Records) → IsSoFar t all (a_record 7 operands behind) s → alias_record s (judged (alias s.texts s.k) operands) ≡ Ok u → IsSoFar t all behind u
  alias_step s u operands behind h e =
      let x = judged (alias s.texts s.k) operands in
      let n = x.0.name in
      let count = suc (length s.aliases) + max (length s.variables) (length s.functions) in
      let room = nat_le count 0x4_0000 in
      let new : Sofar = record s { aliases = s.aliases ++ x.0 ∷ [] } in
      let d = is_placed s 8 (also 7 room (also 4 (is_new s n) x.1)) new u e in
      let seven = also_held 7 room (also 4 (is_new s n) x.1) d.unbroken in
      let four = also_held 4 (is_new s n) x.1 seven.1 in
      let may = high s.last 8 d.may in
      let free = free_of s n four.0 in
      let V = variables_named s in
      let A = aliases_named s in
      let F = functions_named s in
      let less : count ≤ 262144 = leb-true count 0x4_0000 seven.0 in
      let size = length-append s.aliases (x.0 ∷ []) in
      let texts = texts_hold s.texts (texts_of_all s h.texts_are) in
      let order : V ++ (aliases_named new ++ F) ≡ (V ++ A) ++ (n ∷ F) =
      ap (λ (ns : List Bytes). V ++ ns) (one_more (λ (a : Alias). a.name) s.aliases x.0 F) ∙ sym (append_assoc V A (n ∷ F)) in
      let before : is_distinct bytes_eq ((V ++ A) ++ F) ≡ true = subst (λ (ns : List Bytes). is_distinct bytes_eq ns ≡ true) (sym (append_assoc V A F)) h.distinct in
      let others = both_of (λ (o : Bytes). bytes_eq o n ≡ false) V A (new_name n V free.variables) (new_name n A free.aliases) in
      subst (IsSoFar t all behind) d.same (record {
        texts_are = h.texts_are;
        targets_are = h.targets_are;
        globals_are = h.globals_are;
        named = record {
          variables = h.named.variables;
          functions = h.named.functions;
          aliases = h.named.aliases ∙ (ap (λ (b : Bytes). A ++ (b ∷ names_of t 7 behind)) (ahead_is t s.texts operands h.texts_are) ∙ sym (one_more (λ (a : Alias). a.name) s.aliases x.0 (names_of t 7 behind)));
        };
        distinct = subst (λ (ns : List Bytes). is_distinct bytes_eq ns ≡ true) (sym order) (distinct_with bytes_eq (V ++ A) F n before others free.functions);
        texts_good = record { source = h.texts_good.source; layout = h.texts_good.layout; triple = h.texts_good.triple };
        few = record { variables = h.few.variables; functions = h.few.functions; aliases = inr (omega (arith, less, size)) };
        good = λ m of. let g = h.good m of in record {
          variables = g.variables;
          functions = g.functions;
          aliases = both_of (IsAlias m) s.aliases (x.0 ∷ []) g.aliases
              (judged_read (IsAlias m) (alias s.texts s.k) (alias_read s.texts texts m s.k of (all_front (has_entry m) s.k.targets (names_of t 7 all) (subst (λ (ns : List Bytes). list_all (has_entry m) ns ≡ true) h.globals_are of.entries))) operands four.1, tt);
        };
        early = λ small. absurd (omega (arith, small));
        alone = λ small. absurd (omega (arith, small));
        late = λ more. let k = h.late may.0 in record { types_good = k.types_good; structs_good = k.structs_good; names_good = k.names_good; few = k.few };
      })

  -- ---- any record

  abbrev from_seven : Sofar → ℕ → List ℕ → Answer Sofar
  from_seven s code operands = cond (nat_eq code 7) (alias_record s (judged (alias s.texts s.k) operands)) (Err (UnknownRecord 8 code))

  abbrev from_six : Sofar → ℕ → List ℕ → Answer Sofar
  from_six s code operands = cond (nat_eq code 6) (function_record s (judged (function s.texts s.k) operands)) (from_seven s code operands)

  abbrev from_five : Sofar → ℕ → List ℕ → Answer Sofar
  from_five s code operands = cond (nat_eq code 5) (variable_record s (judged (variable s.texts s.k) operands)) (from_six s code operands)

  abbrev from_four : Sofar → ℕ → List ℕ → Answer Sofar
  from_four s code operands = cond (nat_eq code 4) (text_record s 4 operands (λ x. record s { triple = x })) (from_five s code operands)

  abbrev from_three : Sofar → ℕ → List ℕ → Answer Sofar
  from_three s code operands = cond (nat_eq code 3) (text_record s 3 operands (λ x. record s { layout = x })) (from_four s code operands)

  abbrev from_two : Sofar → ℕ → List ℕ → Answer Sofar
  from_two s code operands = cond (nat_eq code 2) (text_record s 2 operands (λ x. record s { source = x })) (from_three s code operands)

  at_code : (s : Sofar) (n code : ℕ) (operands : List ℕ) (behind : Records) → nat_eq code n ≡ true → IsSoFar t all (a_record code operands behind) s → IsSoFar t all (a_record n operands behind) s
  at_code s n code operands behind is h = subst (λ c. IsSoFar t all (a_record c operands behind) s) (eqb-true code n is) h

  module _ (s u : Sofar) (code : ℕ) (operands : List ℕ) (behind : Records) (h : IsSoFar t all (a_record code operands behind) s) where
    seven_step : (b : Bool) → nat_eq code 7 ≡ b → cond {A = Answer Sofar} b (alias_record s (judged (alias s.texts s.k) operands)) (Err (UnknownRecord 8 code)) ≡ Ok u → IsSoFar t all behind u
    seven_step true is e = alias_step s u operands behind (at_code s 7 code operands behind is h) e
    seven_step false is e = absurd (cc)

    six_step : (b : Bool) → nat_eq code 6 ≡ b → cond {A = Answer Sofar} b (function_record s (judged (function s.texts s.k) operands)) (from_seven s code operands) ≡ Ok u → IsSoFar t all behind u
    six_step true is e = function_step s u operands behind (at_code s 6 code operands behind is h) e
    six_step false is e = seven_step (nat_eq code 7) refl e

    five_step : (b : Bool) → nat_eq code 5 ≡ b → cond {A = Answer Sofar} b (variable_record s (judged (variable s.texts s.k) operands)) (from_six s code operands) ≡ Ok u → IsSoFar t all behind u
    five_step true is e = variable_step s u operands behind (at_code s 5 code operands behind is h) e
    five_step false is e = six_step (nat_eq code 6) refl e

    four_step : (b : Bool) → nat_eq code 4 ≡ b → cond {A = Answer Sofar} b (text_record s 4 operands (λ x. record s { triple = x })) (from_five s code operands) ≡ Ok u → IsSoFar t all behind u
    four_step true is e = triple_step s u operands behind (at_code s 4 code operands behind is h) e
    four_step false is e = five_step (nat_eq code 5) refl e

    three_step : (b : Bool) → nat_eq code 3 ≡ b → cond {A = Answer Sofar} b (text_record s 3 operands (λ x. record s { layout = x })) (from_four s code operands) ≡ Ok u → IsSoFar t all behind u
    three_step true is e = layout_step s u operands behind (at_code s 3 code operands behind is h) e
    three_step false is e = four_step (nat_eq code 4) refl e

    two_step : (b : Bool) → nat_eq code 2 ≡ b → cond {A = Answer Sofar} b (text_record s 2 operands (λ x. record s { source = x })) (from_three s code operands) ≡ Ok u → IsSoFar t all behind u
    two_step true is e = source_step s u operands behind (at_code s 2 code operands behind is h) e
    two_step false is e = three_step (nat_eq code 3) refl e

    one_step : (b : Bool) → nat_eq code 1 ≡ b → cond {A = Answer Sofar} b (version_record s operands) (from_two s code operands) ≡ Ok u → IsSoFar t all behind u
    one_step true is e = version_by s u operands behind (at_code s 1 code operands behind is h) e
    one_step false is e = two_step (nat_eq code 2) refl e

    pub record_step : record_in s code operands ≡ Ok u → IsSoFar t all behind u
    record_step e = one_step (nat_eq code 1) refl e

  -- ---- blocks

  types_step : (s u : Sofar) (id : ℕ) (inside behind : Records) → IsSoFar t all (a_block id inside behind) s → may_follow s.last 5 ≡ true → types_block s inside ≡ Ok u → IsSoFar t all behind u
  types_step s u id inside behind h may e =
      let x = then_ok (listed s.texts s.at inside) (λ all. Ok (record s { at = all.at; last = 5; k = record s.k { types = trees all.types; structs = structs all.types } })) u e in
      let made : Sofar = record s { at = x.0.at; last = 5; k = record s.k { types = trees x.0.types; structs = structs x.0.types } } in
      let same : made ≡ u = ok_same made (Ok made) u refl x.1.1 in
      let good = types_are_good s.texts s.at inside x.0 (texts_of_all s h.texts_are) x.1.0 in
      let none = h.early (low s.last 5 may) in
      let empty : IsEmpty made = record { variables = none.variables; functions = none.functions; aliases = none.aliases } in
      subst (IsSoFar t all behind) same (record {
        texts_are = h.texts_are;
        targets_are = h.targets_are;
        globals_are = h.globals_are;
        named = record { variables = h.named.variables; functions = h.named.functions; aliases = h.named.aliases };
        distinct = h.distinct;
        texts_good = record { source = h.texts_good.source; layout = h.texts_good.layout; triple = h.texts_good.triple };
        few = record { variables = h.few.variables; functions = h.few.functions; aliases = h.few.aliases };
        good = λ m of. empty_good m made empty;
        early = λ small. absurd (omega (arith, small));
        alone = λ small. none.aliases;
        late = λ more. record { types_good = good.types_good; structs_good = good.structs_good; names_good = good.names_good; few = good.few };
      })

  body_made : (s u : Sofar) (id : ℕ) (inside behind : Records) (f : Function) (b : Begun) → IsSoFar t all (a_block id inside behind) s → may_follow s.last 9 ≡ true → first_due s.functions ≡ Some f
      → body s.texts s.k (length f.parameters) s.at inside ≡ Ok b → (record s { at = b.at; last = 9; functions = give_body b s.functions }) ≡ u → IsSoFar t all behind u
  body_made s u id inside behind f b h may due read same =
      let after = high s.last 9 may in
      let kept = names_kept b s.functions in
      let many = many_kept b s.functions in
      let functions = h.few.functions in
      subst (IsSoFar t all behind) same (record {
        texts_are = h.texts_are;
        targets_are = h.targets_are;
        globals_are = h.globals_are;
        named = record {
          variables = h.named.variables;
          functions = h.named.functions ∙ ap (λ (ns : List Bytes). ns ++ names_of t 6 behind) (sym kept);
          aliases = h.named.aliases;
        };
        distinct = subst (λ (ns : List Bytes). is_distinct bytes_eq (variables_named s ++ (aliases_named s ++ ns)) ≡ true) (sym kept) h.distinct;
        texts_good = record { source = h.texts_good.source; layout = h.texts_good.layout; triple = h.texts_good.triple };
        few = record {
          variables = h.few.variables;
          functions = omega (arith, many, functions);
          aliases = subst (λ n. (s.aliases ≡ []) ⊎ (length s.aliases + max (length s.variables) n ≤ 262144)) (sym many) h.few.aliases;
        };
        good = λ m of. let g = h.good m of in record {
          variables = g.variables;
          functions = each_given (IsFunction m) b f s.functions due g.functions (λ was. body_given m f b was (body_good m s.texts s.k (length f.parameters) s.at inside b (texts_of_all s h.texts_are) of read));
          aliases = g.aliases;
        };
        early = λ small. absurd (omega (arith, small));
        alone = λ small. absurd (omega (arith, small));
        late = λ more. let k = h.late after.0 in record { types_good = k.types_good; structs_good = k.structs_good; names_good = k.names_good; few = k.few };
      })

  body_step : (s u : Sofar) (id : ℕ) (inside behind : Records) (due : Option Function) → IsSoFar t all (a_block id inside behind) s → may_follow s.last 9 ≡ true → first_due s.functions ≡ due
      → body_block s inside due ≡ Ok u → IsSoFar t all behind u
  body_step s u id inside behind None h may due e = absurd (cc)
  body_step s u id inside behind (Some f) h may due e =
      let x = then_ok (body s.texts s.k (length f.parameters) s.at inside) (λ b. Ok (record s { at = b.at; last = 9; functions = give_body b s.functions })) u e in
      let made : Sofar = record s { at = x.0.at; last = 9; functions = give_body x.0 s.functions } in
      let same : made ≡ u = ok_same made (Ok made) u refl x.1.1 in
      body_made s u id inside behind f x.0 h may due x.1.0 same

  pub block_step : (s u : Sofar) (id : ℕ) (inside behind : Records) → IsSoFar t all (a_block id inside behind) s → block_in s id inside ≡ Ok u → IsSoFar t all behind u
  block_step s u id inside behind h e = by (nat_eq id 17 && may_follow s.last 5) (nat_eq id 12 && may_follow s.last 9) refl refl e
    where
      by : (b c : Bool) → (nat_eq id 17 && may_follow s.last 5) ≡ b → (nat_eq id 12 && may_follow s.last 9) ≡ c
          → cond {A = Answer Sofar} b (types_block s inside) (cond {A = Answer Sofar} c (body_block s inside (first_due s.functions)) (cond {A = Answer Sofar} (is_block_id id) (Err (BadRecord id s.at 5)) (Err (UnknownRecord id 0)))) ≡ Ok u
          → IsSoFar t all behind u
      by true c types bodies e = types_step s u id inside behind h (and_parts (nat_eq id 17) (may_follow s.last 5) types).1 e
      by false true types bodies e = body_step s u id inside behind (first_due s.functions) h (and_parts (nat_eq id 12) (may_follow s.last 9) bodies).1 refl e
      by false false types bodies e = absurd (never_misplaced id s.at (is_block_id id) u e)
