-- One record of the block of types: what is told of it, and what the arena has behind it.
use Rattle.std.proofs.Common.{◌≡◌, ◌≤◌, ◌==◌, ◌&&◌, ◌+◌, ℕ, min, zero, suc, Bool, true, false, List, [], ◌∷◌, ◌++◌, Option, Some, None, length, set, refl, sym, ap, subst, ◌∙◌, arith}
use Rattle.std.specs.Prelude.{nat_lt, not, is_some, bytes_eq, slice_get, Result, Ok, Err}
use Rattle.std.specs.List.{list_any}
use Rattle.std.proofs.lemmas.Bool.{and_from, and_parts, not-true, not_from_false}
use Rattle.std.proofs.lemmas.List.{append_assoc, length_push}
use Rattle.type_table.proofs.Defined.{names-defined, bodies-defined}
use Rattle.type_read.proofs.Tests.{all_both}
use Rattle.type_table.specs.declared.ir_type.IrType.{IrType}
use Rattle.type_table.specs.declared.ir_type.StructBody.{StructBody}
use Rattle.type_table.specs.Types.{Types, IsGood, Knows, bodies, with_type, with_body}
use Rattle.module_arena.specs.Changes.{with_table}
use Rattle.module_arena.specs.Lists.{Lists, no_lists}
use Rattle.module_arena.specs.Module.{Bytes}
use Rattle.record_table.specs.Walk.{Walk, going, stopped, told, ask, next, count_left}
use Rattle.record_table.specs.Layout.{Layout, asking, judged, many}
use Rattle.record_table.specs.Fields.{byte, is_name}
use Rattle.record_table.specs.StringTable.{is_within}
use Rattle.record_table.specs.Faults.{also, types_id, unless_broken}
use Rattle.record_table.specs.TypeRecords.{Listed, TypeKind, ir_type, struct_body, definition, of_kind, struct_record, all_fit}
use Rattle.record_read.specs.Reader.{Reader, ReadsAs, IsAtMost, IsBrokenBy, also_asked, is_broken}
use Rattle.record_read.specs.Faults.{Answers, Finishes}
use Rattle.record_read.specs.Fields.{texts_of}
use Rattle.record_read.specs.declared.texts.Texts as the_texts
use Rattle.record_read.specs.declared.texts.Texts.TheVariants.{Inline, Table}
use Rattle.record_read.proofs.Asking.{still_by, next_by}
use Rattle.record_read.specs.declared.fault.BitcodeFault.{BitcodeFault}
use Rattle.type_read.specs.Fields.{IsTypeOf, IsDefinition, is_good}
use Rattle.type_read.specs.Listed.{AddsType, AreSoFar, IsMore, IsOn, IsReached, NamesNext, ReadsOne, is_first}
use Rattle.type_read.specs.declared.structs.StructNames.{StructNames}
use Rattle.type_read.specs.declared.definition.StructDefinition.{StructDefinition}
use Rattle.type_read.proofs.Good.{bad_is_new, first_tells, reaches_next}
use Rattle.type_read.proofs.Walks.{IsLow, many_by, low_type, low_body, low_broken, told_also, told_low, also_in_vain, also_low, also_held, finished}
use Rattle.type_read.proofs.Adding.{structs_are, type_fits, body_fits}

none_at_most : (limit : ℕ) (o : Option ℕ) → IsAtMost limit o → o ≡ None → ⊥
none_at_most limit None h e = h
none_at_most limit (Some r) h e = cc

-- an arena whose table alone was changed
table_rest : (a after : Lists) (t : Types) → a ≡ record no_lists { table = a.table } → after ≡ with_table a t → after ≡ record no_lists { table = after.table }
table_rest a after t rest is =
    let same : after ≡ record no_lists { table = t } = is ∙ ap (λ (l : Lists). with_table l t) rest in
    same ∙ ap (λ x. record no_lists { table = x }) (sym (ap (λ (l : Lists). l.table) same))

module _ (a after : Lists) (found : StructNames) (all later : List Bytes) (s : Listed) (operands : List ℕ) (r0 r1 r2 r3 : Reader) (on : IsOn a found all r0 operands s) (good : IsGood a.table) where
  -- ---- a type

  module _ (so_far : AreSoFar found all s later) (kind : TypeKind) (count known defined : ℕ) (counts : count ≡ length a.table.types) (structs : known ≡ length a.table.structs) (number : defined ≡ length s.names)
      (asked : r2 ≡ record r1 { walk = also_asked 5 (defined == 0) r1.walk }) where
    abbrev layout : Layout IrType
    layout = ir_type (length s.types.types) (length s.types.structs) kind

    abbrev value : IrType × Option ℕ
    value = judged layout operands

    read_so : (ty : Option IrType) → ReadsAs (IsTypeOf count known) (ir_type count known kind) r0 r1 ty → ReadsAs (IsTypeOf (length s.types.types) (length s.types.structs)) layout r0 r1 ty
    read_so ty h =
        let c : count ≡ length s.types.types = counts ∙ ap length on.listed.types in
        let k : known ≡ length s.types.structs = structs ∙ structs_are a found all s on.listed good in
        subst (λ n. ReadsAs (IsTypeOf n (length s.types.structs)) (ir_type n (length s.types.structs) kind) r0 r1 ty) c
        (subst (λ n. ReadsAs (IsTypeOf count n) (ir_type count n kind) r0 r1 ty) k h)

    first_told : (ty : Option IrType) → ReadsAs (IsTypeOf count known) (ir_type count known kind) r0 r1 ty → told r1.walk ≡ value.1
    first_told ty h = ap (λ (r : Reader). told r.walk) (read_so ty h).reader ∙ ap (λ w. told (layout.read w).1) on.walk

    second_told : (ty : Option IrType) → ReadsAs (IsTypeOf count known) (ir_type count known kind) r0 r1 ty → told r2.walk ≡ also 5 (length s.names == 0) value.1
    second_told ty h =
        ap (λ (r : Reader). told r.walk) asked
        ∙ (told_also 5 (defined == 0) r1.walk
        ∙ (λ j. also 5 (number j == 0) (first_told ty h j)))

    abbrev rules : Option ℕ
    rules = also 7 (all_fit (with_type s.types value.0)) (also 5 (length s.names == 0) value.1)

    pub type_some : (ty : IrType) (result : Result (Unit {0}) BitcodeFault) → ReadsAs (IsTypeOf count known) (ir_type count known kind) r0 r1 (Some ty) → AddsType (with_type a.table ty) a r2 (Ok tt) after r3
        → r3.at ≡ suc s.at → Finishes types_id r3 result → Answers (λ _ listed. IsMore after found all later s listed) (of_kind s operands kind) result
    type_some ty result h add place fin = finished (λ _ listed. IsMore after found all later s listed) types_id s.at r3 rules _ result place rules_are fin keep
      where
        ty_is : ty ≡ value.0
        ty_is = (read_so (Some ty) h).kept.0 ∙ ap (λ w. (layout.read w).0) on.walk

        knows : Knows (length a.table.types) (length a.table.structs) ty
        knows = subst (λ n. Knows (length a.table.types) n ty) structs (subst (λ n. Knows n known ty) counts h.kept.1)

        fits : all_fit (with_type a.table ty) ≡ all_fit (with_type s.types value.0)
        fits = type_fits a found all s on.listed good ty knows ∙ ap (λ x. all_fit (with_type s.types x)) ty_is

        rules_are : told r3.walk ≡ rules
        rules_are =
            ap (λ (r : Reader). told r.walk) add.1
            ∙ (told_also 7 (all_fit (with_type a.table ty)) r2.walk
            ∙ (λ j. also 7 (fits j) (second_told (Some ty) h j)))

        keep : rules ≡ None → IsMore after found all later s (record s { at = suc s.at; types = with_type s.types value.0 })
        keep none =
            let held = also_held 7 (all_fit (with_type s.types value.0)) (also 5 (length s.names == 0) value.1) none in
            let is : after ≡ with_table a (with_type a.table ty) = add.0 (fits ∙ held.0) in
            let table : after.table ≡ with_type a.table ty = ap (λ (l : Lists). l.table) is in
            record {
              listed_is = record {
                rest = table_rest a after (with_type a.table ty) on.listed.rest is;
                types = ap (λ (t : Types). t.types) table ∙ (λ j. on.listed.types j ++ ty_is j ∷ []);
                bodies_are = ap bodies table ∙ on.listed.bodies_are;
                called_so = on.listed.called_so;
                few = on.listed.few;
                named = λ none. table ∙ (λ j. with_type (on.listed.named none j) (ty_is j));
              };
              so_far = record { all_is = so_far.all_is; good = so_far.good; first_bad = so_far.first_bad; reached = so_far.reached; undefined = so_far.undefined };
              at = refl;
              texts = refl;
            }

    -- none was read: a rule is broken that is less than that of limits
    pub type_none : (result : Result (Unit {0}) BitcodeFault) → ReadsAs (IsTypeOf count known) (ir_type count known kind) r0 r1 None → r2.at ≡ suc s.at → Finishes types_id r2 result
        → Answers (λ _ listed. IsMore after found all later s listed) (of_kind s operands kind) result
    type_none result h place fin = finished (λ _ listed. IsMore after found all later s listed) types_id s.at r2 rules _ result place rules_are fin keep
      where
        walk_is : r1.walk ≡ (layout.read (going operands None)).1
        walk_is = ap (λ (r : Reader). r.walk) (read_so None h).reader ∙ ap (λ w. (layout.read w).1) on.walk

        low : IsBrokenBy 3 r1.walk
        low = low_broken 3 r1.walk (subst (IsLow 3) (sym walk_is) (low_type (length s.types.types) (length s.types.structs) kind (going operands None) tt)) (read_so None h).kept

        at_most : IsAtMost 3 (also 5 (length s.names == 0) value.1)
        at_most = also_low 3 5 (length s.names == 0) value.1 (omega arith) (subst (IsAtMost 3) (first_told None h) (told_low 3 r1.walk (omega arith) low))

        rules_are : told r2.walk ≡ rules
        rules_are = second_told None h ∙ sym (also_in_vain 3 7 (all_fit (with_type s.types value.0)) (also 5 (length s.names == 0) value.1) (omega arith) at_most)

        keep : rules ≡ None → IsMore after found all later s (record s { at = suc s.at; types = with_type s.types value.0 })
        keep none = absurd (none_at_most 3 rules (also_low 3 7 (all_fit (with_type s.types value.0)) (also 5 (length s.names == 0) value.1) (omega arith) at_most) none)

  -- ---- a struct

  module _ (count number : ℕ) (made : StructDefinition) (counts : count ≡ length a.table.types) (place_is : number ≡ length s.names)
      (read : r1 ≡ record r0 { walk = ((definition s.texts count).read r0.walk).1 }) (kept : IsDefinition s.texts count r0.walk made)
      (so_far : AreSoFar found all s ((judged (definition s.texts (length s.types.types)) operands).0.1 ∷ later)) where
    abbrev struct_layout : Layout (StructBody × Bytes)
    struct_layout = definition s.texts (length s.types.types)

    abbrev struct_value : (StructBody × Bytes) × Option ℕ
    struct_value = judged struct_layout operands

    counts_are : count ≡ length s.types.types
    counts_are = counts ∙ ap length on.listed.types

    walk_read : r1.walk ≡ (struct_layout.read (going operands None)).1
    walk_read = ap (λ (r : Reader). r.walk) read ∙ (λ j. ((definition s.texts (counts_are j)).read (on.walk j)).1)

    kept_so : IsDefinition s.texts (length s.types.types) (going operands None) made
    kept_so = subst (λ w. IsDefinition s.texts (length s.types.types) w made) on.walk (subst (λ n. IsDefinition s.texts n r0.walk made) counts_are kept)

    abbrev is_new : Bool
    is_new = not (list_any (bytes_eq struct_value.0.1) s.names)

    -- whether a name is new is what was found ahead of all names
    pub new_is : (named : Reader) (name : Option Bytes) → made.name ≡ name → NamesNext found number (is_some name) r1 named → told named.walk ≡ also 4 is_new (told r1.walk)
    new_is named None is h =
        let bad : is_good struct_value.0.1 ≡ false = rw is at kept_so.name in
        let new : is_new ≡ true = not_from_false (list_any (bytes_eq struct_value.0.1) s.names) (bad_is_new struct_value.0.1 s.names bad so_far.good) in
        ap (λ (r : Reader). told r.walk) h ∙ ap (λ b. also 4 b (told r1.walk)) (sym new)
    new_is named (Some kept_name) is h =
        let value = rw is at kept_so.name in
        let tells = first_tells found.first_bad all s.names later struct_value.0.1 so_far.first_bad so_far.all_is so_far.reached value.1 in
        ap (λ (r : Reader). told r.walk) h
        ∙ (told_also 4 (not (is_first found.first_bad number)) r1.walk
        ∙ ap (λ b. also 4 (not b) (told r1.walk)) (ap (is_first found.first_bad) place_is ∙ tells))

    -- where the name is kept and new the next struct is reached
    pub next_reached : is_good struct_value.0.1 ≡ true → is_new ≡ true → IsReached found.first_bad (suc (length s.names))
    next_reached good_name new =
        let tells = first_tells found.first_bad all s.names later struct_value.0.1 so_far.first_bad so_far.all_is so_far.reached good_name in
        reaches_next found.first_bad (length s.names) so_far.reached (tells ∙ not-true (list_any (bytes_eq struct_value.0.1) s.names) new)

    -- where no rule is broken the name is good
    pub name_good : (name : Option Bytes) → made.name ≡ name → told r1.walk ≡ None → is_good struct_value.0.1 ≡ true
    name_good None is none = absurd (some_told ((struct_layout.read (going operands None)).1) (kept_so.broken is) (sym (ap told walk_read) ∙ none))
      where
        some_told : (w : Walk) → is_broken w ≡ true → told w ≡ None → ⊥
        some_told (going [] None) b t = cc
        some_told (going [] (Some r)) b t = cc
        some_told (going (n ∷ rest) None) b t = cc
        some_told (going (n ∷ rest) (Some r)) b t = cc
        some_told (stopped None) b t = cc
        some_told (stopped (Some r)) b t = cc
    name_good (Some kept_name) is none = (rw is at kept_so.name).1

    abbrev struct_fits : Bool
    struct_fits = all_fit (with_body s.types (length s.names) struct_value.0.0) && nat_lt (length s.names) 0x4_0000

    abbrev struct_rules : Option ℕ
    struct_rules = also 7 struct_fits (also 4 is_new struct_value.1)

    -- both halves of rule 7, one behind the other
    also_twice : (rule : ℕ) (p q : Bool) (o : Option ℕ) → also rule p (also rule q o) ≡ also rule (p && q) o
    also_twice rule true q o = refl
    also_twice rule false true o = refl
    also_twice rule false false None = ap (λ n. Some n) (twice rule)
      where
        twice : (n : ℕ) → min n n ≡ n
        twice n = omega arith
    also_twice rule false false (Some r) = ap (λ n. Some n) (twice rule r)
      where
        twice : (n r : ℕ) → min n (min n r) ≡ min n r
        twice n r = omega arith

    same_one : {A : Type 0} (l : List A) (i j : ℕ) (x : A) (o : Option A) → (i ≡ j → ⊥) → slice_get l j ≡ o → slice_get (set l i x) j ≡ o
    same_one [] i j x o other e = e
    same_one (y ∷ l) zero zero x o other e = absurd (other refl)
    same_one (y ∷ l) zero (suc j) x o other e = e
    same_one (y ∷ l) (suc i) zero x o other e = e
    same_one (y ∷ l) (suc i) (suc j) x o other e = same_one l i j x o (λ p. other (ap suc p)) e

    -- what the record of a struct leaves, where no rule is broken
    after_struct : (body : StructBody) → body ≡ struct_value.0.0 → after ≡ with_table a (with_body a.table number body) → is_good struct_value.0.1 ≡ true → is_new ≡ true
        → IsMore after found all later s (record s { at = suc s.at; types = with_body s.types (length s.names) struct_value.0.0; names = s.names ++ struct_value.0.1 ∷ [] })
    after_struct body body_is is good_name new =
        let table : after.table ≡ with_body a.table number body = ap (λ (l : Lists). l.table) is in
        let one = length_push s.names struct_value.0.1 in
        record {
          listed_is = record {
            rest = table_rest a after (with_body a.table number body) on.listed.rest is;
            types = ap (λ (t : Types). t.types) table ∙ on.listed.types;
            bodies_are =
                ap bodies table
                ∙ (bodies-defined a.table number body
                ∙ ((λ j. set (on.listed.bodies_are j) (place_is j) (Some (body_is j)))
                ∙ sym (bodies-defined s.types (length s.names) struct_value.0.0)));
            called_so = names-defined s.types (length s.names) struct_value.0.0 ∙ on.listed.called_so;
            few = on.listed.few;
            named = λ none. table ∙ (λ j. with_body (on.listed.named none j) (place_is j) (body_is j));
          };
          so_far = record {
            all_is = so_far.all_is ∙ sym (append_assoc s.names (struct_value.0.1 ∷ []) later);
            good = all_both is_good s.names (struct_value.0.1 ∷ []) so_far.good (and_from (is_good struct_value.0.1) true good_name refl);
            first_bad = so_far.first_bad;
            reached = subst (IsReached found.first_bad) (sym (one ∙ plus_one (length s.names))) (next_reached good_name new);
            undefined = λ id le lt.
                ap (λ (bs : List (Option StructBody)). slice_get bs id) (bodies-defined s.types (length s.names) struct_value.0.0)
                ∙ same_one (bodies s.types) (length s.names) id (Some struct_value.0.0) (Some None) (apart id le) (so_far.undefined id (below id le) lt);
          };
          at = refl;
          texts = refl;
        }
      where
        plus_one : (n : ℕ) → n + 1 ≡ suc n
        plus_one n = omega arith

        apart : (id : ℕ) → length (s.names ++ struct_value.0.1 ∷ []) ≤ id → length s.names ≡ id → ⊥
        apart id le e = let one = length_push s.names struct_value.0.1 in omega (arith, one, le, e)

        below : (id : ℕ) → length (s.names ++ struct_value.0.1 ∷ []) ≤ id → length s.names ≤ id
        below id le = let one = length_push s.names struct_value.0.1 in omega (arith, one, le)

    -- what is told of the record, once rule 4 and the count of rule 7 were asked
    asked_told : (named counted : Reader) → NamesNext found number (is_some made.name) r1 named → counted ≡ record named { walk = also_asked 7 (nat_lt number 0x4_0000) named.walk }
        → told counted.walk ≡ also 7 (nat_lt (length s.names) 0x4_0000) (also 4 is_new struct_value.1)
    asked_told named counted asks is =
        ap (λ (r : Reader). told r.walk) is
        ∙ (told_also 7 (nat_lt number 0x4_0000) named.walk
        ∙ (λ j. also 7 (nat_lt (place_is j) 0x4_0000) ((new_is named made.name refl asks ∙ ap (λ w. also 4 is_new (told w)) walk_read) j)))

    pub struct_some : (named counted : Reader) (body : StructBody) (result : Result (Unit {0}) BitcodeFault) → made.body ≡ Some body → NamesNext found number (is_some made.name) r1 named
        → counted ≡ record named { walk = also_asked 7 (nat_lt number 0x4_0000) named.walk } → AddsType (with_body a.table number body) a counted (Ok tt) after r3 → r3.at ≡ suc s.at → Finishes types_id r3 result
        → Answers (λ _ listed. IsMore after found all later s listed) (struct_record s struct_value) result
    struct_some named counted body result has asks is add place fin = finished (λ _ listed. IsMore after found all later s listed) types_id s.at r3 struct_rules _ result place rules_are fin keep
      where
        body_is : body ≡ struct_value.0.0
        body_is = (rw has at kept_so.body).0

        fits : all_fit (with_body a.table number body) ≡ all_fit (with_body s.types (length s.names) struct_value.0.0)
        fits = body_fits a found all s on.listed good number body ∙ (λ j. all_fit (with_body s.types (place_is j) (body_is j)))

        rules_are : told r3.walk ≡ struct_rules
        rules_are =
            ap (λ (r : Reader). told r.walk) add.1
            ∙ (told_also 7 (all_fit (with_body a.table number body)) counted.walk
            ∙ ((λ j. also 7 (fits j) (asked_told named counted asks is j))
            ∙ also_twice 7 (all_fit (with_body s.types (length s.names) struct_value.0.0)) (nat_lt (length s.names) 0x4_0000) (also 4 is_new struct_value.1)))

        keep : struct_rules ≡ None → IsMore after found all later s (record s { at = suc s.at; types = with_body s.types (length s.names) struct_value.0.0; names = s.names ++ struct_value.0.1 ∷ [] })
        keep none =
            let held = also_held 7 struct_fits (also 4 is_new struct_value.1) none in
            let new = also_held 4 is_new struct_value.1 held.1 in
            let fit = and_parts (all_fit (with_body s.types (length s.names) struct_value.0.0)) (nat_lt (length s.names) 0x4_0000) held.0 in
            after_struct body body_is (add.0 (fits ∙ fit.0)) (name_good made.name refl (ap told walk_read ∙ new.1)) new.0

    abbrev pub struct_after : Listed
    struct_after = record s { at = suc s.at; types = with_body s.types (length s.names) struct_value.0.0; names = s.names ++ struct_value.0.1 ∷ [] }

    true_too : (b : Bool) → (b && true) ≡ b
    true_too true = refl
    true_too false = refl

    -- where the record breaks no rule but, maybe, 7, that alone is what is asked of it
    pub struct_held : (named counted : Reader) (body : StructBody) → made.body ≡ Some body → NamesNext found number (is_some made.name) r1 named
        → counted ≡ record named { walk = also_asked 7 (nat_lt number 0x4_0000) named.walk } → after ≡ with_table a (with_body a.table number body) → told counted.walk ≡ None
        → IsMore after found all later s struct_after × (struct_record s struct_value ≡ unless_broken types_id s.at (also 7 (all_fit (with_body a.table number body)) None) struct_after)
    struct_held named counted body has asks is same none = (
      after_struct body body_is same (name_good made.name refl (ap told walk_read ∙ new.1)) new.0,
      ap (λ (rules : Option ℕ). unless_broken types_id s.at rules struct_after) rules_are,
    )
      where
        body_is : body ≡ struct_value.0.0
        body_is = (rw has at kept_so.body).0

        few : (nat_lt (length s.names) 0x4_0000 ≡ true) × (also 4 is_new struct_value.1 ≡ None)
        few = also_held 7 (nat_lt (length s.names) 0x4_0000) (also 4 is_new struct_value.1) (sym (asked_told named counted asks is) ∙ none)

        new : (is_new ≡ true) × (struct_value.1 ≡ None)
        new = also_held 4 is_new struct_value.1 few.1

        fits : all_fit (with_body s.types (length s.names) struct_value.0.0) ≡ all_fit (with_body a.table number body)
        fits = sym (body_fits a found all s on.listed good number body ∙ (λ j. all_fit (with_body s.types (place_is j) (body_is j))))

        rules_are : struct_rules ≡ also 7 (all_fit (with_body a.table number body)) None
        rules_are =
            (λ j. also 7 (fits j && few.0 j) (few.1 j))
            ∙ ap (λ b. also 7 b None) (true_too (all_fit (with_body a.table number body)))

    -- no body was read: a rule is broken that is less than those of names and limits
    pub struct_none : (named counted : Reader) (result : Result (Unit {0}) BitcodeFault) → made.body ≡ None → NamesNext found number (is_some made.name) r1 named
        → counted ≡ record named { walk = also_asked 7 (nat_lt number 0x4_0000) named.walk } → counted.at ≡ suc s.at → IsBrokenBy 3 (struct_layout.read (going operands None)).1 → Finishes types_id counted result
        → Answers {B = Unit {0}} (λ _ _. ⊥) (struct_record s struct_value) result
    struct_none named counted result has asks is place low fin = finished (λ _ _. ⊥) types_id s.at counted struct_rules struct_after result place rules_are fin keep
      where
        at_most : IsAtMost 3 (also 4 is_new struct_value.1)
        at_most = also_low 3 4 is_new struct_value.1 (omega arith) (told_low 3 (struct_layout.read (going operands None)).1 (omega arith) low)

        rules_are : told counted.walk ≡ struct_rules
        rules_are =
            asked_told named counted asks is
            ∙ (also_in_vain 3 7 (nat_lt (length s.names) 0x4_0000) (also 4 is_new struct_value.1) (omega arith) at_most
            ∙ sym (also_in_vain 3 7 struct_fits (also 4 is_new struct_value.1) (omega arith) at_most))

        keep : struct_rules ≡ None → ⊥
        keep none = none_at_most 3 struct_rules (also_low 3 7 struct_fits (also 4 is_new struct_value.1) (omega arith) at_most) none

-- a body that is not there broke a rule that is at most 3, and the text behind it does not change that
pub low_definition : (x : the_texts.Texts) (count : ℕ) (operands : List ℕ) (made : StructDefinition) → IsDefinition (texts_of x) count (going operands None) made → made.body ≡ None
    → IsBrokenBy 3 ((definition (texts_of x) count).read (going operands None)).1
low_definition x count operands made h none =
    let broken = rw none at h.body in
    text_by x ((struct_body count).read (going operands None)).1 (low_broken 3 ((struct_body count).read (going operands None)).1 (low_body count (going operands None) tt) broken)
  where
    byte_by : (w : Walk) → IsBrokenBy 3 w → IsBrokenBy 3 (byte.read w).1
    byte_by w b = still_by 3 3 (nat_lt (next w).0 256) (next w).1 (next_by 3 w b)

    text_by : (x : the_texts.Texts) (w : Walk) → IsBrokenBy 3 w → IsBrokenBy 3 ((asking 4 is_name (texts_of x).last).read w).1
    text_by Inline w b = still_by 4 3 _ (many byte.read (count_left w) w).1 (many_by 3 byte.read byte_by (count_left w) w b)
    text_by (Table bytes) w b =
        still_by 4 3 _ (ask 8 (is_within bytes (next w).0 (next (next w).1).0) (next (next w).1).1)
        (still_by 8 3 (is_within bytes (next w).0 (next (next w).1).0) (next (next w).1).1 (next_by 3 (next w).1 (next_by 3 w b)))

-- what of a reader stays while rule 4 is asked
pub next_at : (found : StructNames) (number : ℕ) (b : Bool) (before now : Reader) → NamesNext found number b before now → now.at ≡ before.at
next_at found number true before now h = ap (λ (r : Reader). r.at) h
next_at found number false before now h = ap (λ (r : Reader). r.at) h

pub next_left : (found : StructNames) (number : ℕ) (b : Bool) (before now : Reader) → NamesNext found number b before now → (now.spent ≡ before.spent) × (now.left ≡ before.left)
next_left found number true before now h = (ap (λ (r : Reader). r.spent) h, ap (λ (r : Reader). r.left) h)
next_left found number false before now h = (ap (λ (r : Reader). r.spent) h, ap (λ (r : Reader). r.left) h)

-- a record is read by a reader that stands where another does
pub reads_on : {A E : Type 0} (old mid : Reader) (result : Result A E) (new : Reader) → mid.spent ≡ old.spent → mid.left ≡ old.left → mid.at ≡ old.at → ReadsOne mid result new → ReadsOne old result new
reads_on old mid (Ok done) new spent left at reads = (reads.0 ∙ spent, reads.1 ∙ left, reads.2 ∙ at)
reads_on old mid (Err given) new spent left at reads = tt
