-- What the record of an entry answers, from its operands and its end.
use Rattle.std.proofs.Common.{◌≡◌, ◌<◌, ◌+◌, ℕ, suc, Bool, true, false, List, [], ◌∷◌, ◌++◌, max, Option, Some, None, length, refl, sym, ap, subst, ◌∙◌}
use Rattle.std.specs.Prelude.{nat_lt, nat_le, Result, Ok, Err, IfSome}
use Rattle.std.specs.Option.{option_map, option_map_or}
use Rattle.module_arena.specs.declared.entry.GlobalId.{GlobalId}
use Rattle.module_arena.specs.declared.entry.GlobalId.TheVariants as global
use Rattle.module_arena.specs.Known.{HasGlobal, counts}
use Rattle.module_arena.specs.Lists.{Lists, name_at}
use Rattle.module_arena.specs.Module as m
use Rattle.module_arena.specs.Module.{Bytes}
use Rattle.module_arena.proofs.Found.{some-equal}
use Rattle.record_table.specs.Faults.{also}
use Rattle.record_table.specs.Fields as fields
use Rattle.record_table.specs.Fields.{Numbering, Texts, target, ty}
use Rattle.record_table.specs.Layout.{counted, either, judged, ◌&◌}
use Rattle.record_table.specs.Records as records
use Rattle.record_table.specs.Records.{Sofar, is_new, may_follow}
use Rattle.record_table.specs.Walk.{Walk, going, told}
use Rattle.record_read.specs.declared.fault.BitcodeFault.{BitcodeFault}
use Rattle.record_read.specs.Faults.{Answers}
use Rattle.record_read.specs.Reader.{Reader, FinishesBy, IsBroken, IsKept, is_broken}
use Rattle.type_read.specs.declared.arena.module_reader.ModuleReader.{ModuleReader}
use Rattle.type_read.specs.Arena.Growing.{Growing, Grows}
use Rattle.type_read.specs.Arena.Kept.{IsThere, TakesOnly}
use Rattle.type_read.specs.Arena.Numbered.{Numbers, IsGlobal, ReadsGlobal}
use Rattle.type_read.proofs.OnArena.Kept.{grows_self}
use Rattle.type_read.proofs.OnArena.LeavesRead.{goes_takes}
use Rattle.body_read.specs.Operands.Found.{Always}
use Rattle.body_read.proofs.OnOperands.Joined.{was_unbroken}
use Rattle.type_read.specs.Fields.{IsNameOf, is_good}
use Rattle.type_read.proofs.Walks.{also_held}
use Rattle.bitcode_read.specs.Head.Fronts.{ReadsAlias, ReadsFunction, alias_front, function_front, variable_front}
use Rattle.bitcode_read.specs.declared.head.fronts.AliasFront.{AliasFront}
use Rattle.bitcode_read.specs.declared.head.fronts.FunctionFront.{FunctionFront}
use Rattle.bitcode_read.specs.declared.entry.holding.VariableFields.{VariableFields}
use Rattle.bitcode_read.specs.Entry.Entries as entries
use Rattle.bitcode_read.specs.Entry.Entries.{EndsRecord, HasHeld, HasInitialiser, IsInFront, IsToldNew, Passes, ReadsFields, held_in, initialiser_in, IsRefusedAt}
use Rattle.bitcode_read.proofs.OnEntry.Ended.{answers_err, answers_ok, told_on, told_unbroken}
use Rattle.bitcode_read.proofs.OnEntry.Layouts.{alias_type_same, function_same, many_types}

-- all rules on the record of an entry, whose operands break these
abbrev pub rules_of : Sofar → Bytes → Bool → Bool → Option ℕ → Option ℕ
rules_of s value in_order few broken = also 5 in_order (also 7 few (also 4 (is_new s value) broken))

-- where none is told, none is told of the operands
none_of : (s : Sofar) (value : Bytes) (in_order few : Bool) (broken : Option ℕ) → rules_of s value in_order few broken ≡ None → broken ≡ None
none_of s value in_order few broken h = (also_held 4 (is_new s value) broken (also_held 7 few (also 4 (is_new s value) broken) (also_held 5 in_order (also 7 few (also 4 (is_new s value) broken)) h).1).1).1

-- what is told at the end of a record
abbrev pub TellsAll : ModuleReader → Option Bytes → GlobalId → Bool → Bool → Result (Unit {0}) BitcodeFault → Type 0
TellsAll mid name own few in_order result =
    (s : Sofar) (value : List ℕ) → IsToldNew mid.growing.arena own s value → IsNameOf name value → FinishesBy (IsRefusedAt mid.reader.at) (rules_of s value in_order few (told mid.reader.walk)) result

-- a name that is known is good
good_name : (name : Option Bytes) (value : Bytes) (w : Walk) → IsNameOf name value → (name ≡ None → IsBroken w) → is_broken w ≡ false → is_good value ≡ true
good_name None value w h named unbroken = let broken : is_broken w ≡ true = named refl in absurd (cc)
good_name (Some kept) value w h named unbroken = h.1

-- but for constants and the walk nothing changed
abbrev IsStill : ModuleReader → ModuleReader → Type 0
IsStill old mid = mid ≡ record old { growing = mid.growing; reader = record old.reader { walk = mid.reader.walk } }

-- the record is behind
passed : (old mid new : ModuleReader) (s t : Sofar) → IsStill old mid → Grows old.growing mid.growing → EndsRecord mid new → old.reader.at ≡ suc s.at → t.at ≡ suc s.at → Passes old new t
passed old mid new s t still grows e at is = record {
  rest =
      e.rest
      ∙ (ap (λ (x : ModuleReader). record x { reader = new.reader }) still
      ∙ ap (λ (x : Growing). record old { growing = x; reader = new.reader }) (sym (ap (λ (x : ModuleReader). x.growing) e.rest)));
  grows = subst (Grows old.growing) (sym (ap (λ (x : ModuleReader). x.growing) e.rest)) grows;
  spent = e.spent ∙ ap (λ (x : ModuleReader). x.reader.spent) still;
  left = e.left ∙ ap (λ (x : ModuleReader). x.reader.left) still;
  at = e.at ∙ (ap (λ (x : ModuleReader). x.reader.at) still ∙ (at ∙ sym is));
}

same_growing : (mid new : ModuleReader) → EndsRecord mid new → new.growing ≡ mid.growing
same_growing mid new e = ap (λ (x : ModuleReader). x.growing) e.rest

-- ---- variables

module _ (texts : Texts) (old mid : ModuleReader) (found : VariableFields) (number : ℕ) (in_order : Bool) (result : Result (Unit {0}) BitcodeFault) (h : ReadsFields texts old mid found)
    (tells : TellsAll mid found.name (global.Variable number) (nat_lt number 262144) in_order result) where
  module _ (s : Sofar) (operands : List ℕ) (front : IsInFront texts old s operands) (many : number ≡ length s.variables) (follows : in_order ≡ may_follow s.last 6) where
    abbrev walk : Walk
    walk = going operands None

    abbrev read : m.Variable × Option ℕ
    read = judged (records.variable s.texts s.k) operands

    fields_are : ReadsFields s.texts old mid found
    fields_are = subst (λ t. ReadsFields t old mid found) (sym front.texts_are) h

    name_is : IsNameOf found.name read.0.name
    name_is = subst (λ w. IsNameOf found.name ((fields.name s.texts).read w).0) front.walk fields_are.name

    walk_is : mid.reader.walk ≡ ((records.variable s.texts s.k).read walk).1
    walk_is = fields_are.initialiser.walk s.k front.numbers ∙ ap (λ w. ((records.variable s.texts s.k).read w).1) front.walk

    rules_are : rules_of s read.0.name in_order (nat_lt number 262144) (told mid.reader.walk) ≡ rules_of s read.0.name (may_follow s.last 6) (nat_lt (length s.variables) 262144) read.1
    rules_are = λ j. rules_of s read.0.name (follows j) (nat_lt (many j) 262144) (told (walk_is j))

    module _ (new_told : IsToldNew old.growing.arena (global.Variable number) s read.0.name) where
      told_so : FinishesBy (IsRefusedAt mid.reader.at) (rules_of s read.0.name (may_follow s.last 6) (nat_lt (length s.variables) 262144) read.1) result
      told_so =
          let g = fields_are.initialiser.goes in
          subst (λ o. FinishesBy (IsRefusedAt mid.reader.at) o result) rules_are
          (tells s read.0.name
          (subst (λ (a : Lists). IsToldNew a (global.Variable number) s read.0.name) (sym (ap (λ (x : Growing). x.arena) g.grows.rest)) (told_on old.growing.arena mid.growing.arena.constants (global.Variable number) s read.0.name new_told))
          name_is)

      mid_at : mid.reader.at ≡ suc s.at
      mid_at = ap (λ (x : ModuleReader). x.reader.at) fields_are.initialiser.goes.rest ∙ front.at

      pub variable_err : {A : Type 0} (means : A → Sofar → Type 0) (e : BitcodeFault) → result ≡ Err e → Answers means (records.variable_record s read) (Err e)
      variable_err means e is = answers_err means s.at mid.reader.at _ _ e mid_at (subst (λ r. FinishesBy (IsRefusedAt mid.reader.at) (rules_of s read.0.name (may_follow s.last 6) (nat_lt (length s.variables) 262144) read.1) r) is told_so)

      held : (new : ModuleReader) (t : Sofar) → EndsRecord mid new → t.at ≡ suc s.at → is_broken mid.reader.walk ≡ false → (o : Option (Option ℕ)) → found.initialiser ≡ o → entries.ReadsVariable s.texts s.k operands old new (option_map_or (λ x. x) o None) t
      held new t e at unbroken None is =
          let there = fields_are.initialiser.there mid.growing (grows_self mid.growing) in
          let broken : is_broken mid.reader.walk ≡ true = subst (λ (o : Option (Option ℕ)). IsThere (HasHeld mid.locals mid.growing.arena) o mid.reader.walk) is there in
          absurd (cc)
      held new t e at unbroken (Some o) is =
          record {
            passes = passed old mid new s t fields_are.initialiser.goes.rest fields_are.initialiser.goes.grows e front.at at;
            there = subst (λ (g : Growing). Always g (λ a. HasInitialiser a o)) (sym (same_growing mid new e))
                (λ later g. subst (λ (x : Option (Option ℕ)). IsThere (HasHeld mid.locals later.arena) x mid.reader.walk) is (fields_are.initialiser.there later g));
            is = λ declared.
                subst (λ (g : Growing). Always g (λ a. initialiser_in a o ≡ read.0.initialiser)) (sym (same_growing mid new e))
                (λ later g.
                some-equal
                (subst (λ (x : Option (Option ℕ)). option_map (held_in s.k later.arena) x ≡ Some (entries.initialiser_read s.texts s.k old.reader.walk).0) is (fields_are.initialiser.kept s.k front.numbers declared unbroken later g)
                ∙ ap (λ w. Some (entries.initialiser_read s.texts s.k w).0) front.walk));
            good = good_name found.name read.0.name mid.reader.walk name_is fields_are.named unbroken;
            front = subst (λ w. is_broken ((variable_front s.texts (length s.k.types)).read w).1 ≡ false) front.walk (fields_are.front s.k front.numbers unbroken);
          }

      pub variable_ok : (new : ModuleReader) (initialiser : Option ℕ) → EndsRecord mid new → result ≡ Ok tt → initialiser ≡ option_map_or (λ o. o) found.initialiser None
          → Answers (entries.ReadsVariable s.texts s.k operands old new) (records.variable_record s read) (Ok initialiser)
      variable_ok new initialiser e is kept =
          answers_ok (entries.ReadsVariable s.texts s.k operands old new) s.at mid.reader.at _ _ initialiser
          (subst (λ r. FinishesBy (IsRefusedAt mid.reader.at) (rules_of s read.0.name (may_follow s.last 6) (nat_lt (length s.variables) 262144) read.1) r) is told_so)
          (λ none.
          subst (λ (i : Option ℕ). entries.ReadsVariable s.texts s.k operands old new i (record s { variables = s.variables ++ read.0 ∷ []; at = suc s.at; last = 6 })) (sym kept)
          (held new (record s { variables = s.variables ++ read.0 ∷ []; at = suc s.at; last = 6 }) e refl (told_unbroken mid.reader.walk (ap told walk_is ∙ none_of s read.0.name (may_follow s.last 6) (nat_lt (length s.variables) 262144) read.1 none)) found.initialiser refl))

-- ---- functions

-- a reader whose walk alone changed
still_reader : (old : ModuleReader) (r : Reader) (w : Walk) → r ≡ record old.reader { walk = w } → IsStill old (record old { reader = r })
still_reader old r w is = ap (λ (x : Reader). record old { reader = x }) (is ∙ ap (λ v. record old.reader { walk = v }) (sym (ap (λ (x : Reader). x.walk) is)))

module _ (texts : Texts) (old : ModuleReader) (r : Reader) (types : ℕ) (found : FunctionFront) (number : ℕ) (in_order : Bool) (result : Result (Unit {0}) BitcodeFault) (listed : types ≡ old.growing.types) (fewer : types < length old.growing.arena.table.types)
    (h : ReadsFunction texts types old.reader r found) (tells : TellsAll (record old { reader = r }) found.name (global.Function number) (nat_lt number 262144) in_order result) where
  module _ (s : Sofar) (operands : List ℕ) (front : IsInFront texts old s operands) (many : number ≡ length s.functions) (follows : in_order ≡ may_follow s.last 7) where
    abbrev f_walk : Walk
    f_walk = going operands None

    abbrev f_read : (Bool × m.Function) × Option ℕ
    f_read = judged (records.function s.texts s.k) operands

    f_types : types ≡ length s.k.types
    f_types = listed ∙ many_types old s.k front.numbers (subst (λ n. n < length old.growing.arena.table.types) listed fewer)

    f_is : ReadsFunction s.texts (length s.k.types) (record old.reader { walk = f_walk }) r found
    f_is =
        subst (λ w. ReadsFunction s.texts (length s.k.types) (record old.reader { walk = w }) r found) front.walk
        (subst (λ n. ReadsFunction s.texts n old.reader r found) f_types (subst (λ t. ReadsFunction t types old.reader r found) (sym front.texts_are) h))

    f_front_is : r.walk ≡ ((function_front s.texts (length s.k.types)).read f_walk).1
    f_front_is = ap (λ (x : Reader). x.walk) f_is.reader

    f_walk_is : r.walk ≡ ((records.function s.texts s.k).read f_walk).1
    f_walk_is = f_front_is ∙ function_same s.k s.texts f_walk

    f_rules : rules_of s f_read.0.1.name in_order (nat_lt number 262144) (told r.walk) ≡ rules_of s f_read.0.1.name (may_follow s.last 7) (nat_lt (length s.functions) 262144) f_read.1
    f_rules = λ j. rules_of s f_read.0.1.name (follows j) (nat_lt (many j) 262144) (told (f_walk_is j))

    f_at : r.at ≡ suc s.at
    f_at = ap (λ (x : Reader). x.at) f_is.reader ∙ front.at

    module _ (new_told : IsToldNew old.growing.arena (global.Function number) s f_read.0.1.name) where
      f_told : FinishesBy (IsRefusedAt r.at) (rules_of s f_read.0.1.name (may_follow s.last 7) (nat_lt (length s.functions) 262144) f_read.1) result
      f_told = subst (λ o. FinishesBy (IsRefusedAt r.at) o result) f_rules (tells s f_read.0.1.name new_told f_is.name)

      pub function_err : {A : Type 0} (means : A → Sofar → Type 0) (e : BitcodeFault) → result ≡ Err e → Answers means (records.function_record s f_read) (Err e)
      function_err means e is = answers_err means s.at r.at _ _ e f_at (subst (λ x. FinishesBy (IsRefusedAt r.at) (rules_of s f_read.0.1.name (may_follow s.last 7) (nat_lt (length s.functions) 262144) f_read.1) x) is f_told)

      pub function_ok : (new : ModuleReader) → EndsRecord (record old { reader = r }) new → result ≡ Ok tt → Answers (entries.ReadsFunction s.texts s.k operands old new) (records.function_record s f_read) (Ok found.defined)
      function_ok new e is =
          answers_ok (entries.ReadsFunction s.texts s.k operands old new) s.at r.at _ _ found.defined
          (subst (λ x. FinishesBy (IsRefusedAt r.at) (rules_of s f_read.0.1.name (may_follow s.last 7) (nat_lt (length s.functions) 262144) f_read.1) x) is f_told)
          (λ none.
          let last : f_read.1 ≡ None = none_of s f_read.0.1.name (may_follow s.last 7) (nat_lt (length s.functions) 262144) f_read.1 none in
          record {
            passes = passed old (record old { reader = r }) new s _ (still_reader old r _ h.reader) (grows_self old.growing) e front.at refl;
            is = f_is.defined;
            good = good_name found.name f_read.0.1.name r.walk f_is.name f_is.named (told_unbroken r.walk (ap told f_walk_is ∙ last));
            front = ap told (function_same s.k s.texts f_walk) ∙ last;
          })

-- ---- aliases

module _ (texts : Texts) (old : ModuleReader) (r : Reader) (types : ℕ) (found : AliasFront) (mid : ModuleReader) (to : Option GlobalId) (number others : ℕ) (in_order : Bool) (result : Result (Unit {0}) BitcodeFault)
    (listed : types ≡ old.growing.types) (fewer : types < length old.growing.arena.table.types) (h : ReadsAlias texts types old.reader r found) (takes : TakesOnly (record old { reader = r }) mid)
    (there : IfSome to (HasGlobal (counts mid.growing.arena))) (reads : (k : Numbering) → Numbers (record old { reader = r }) k → ReadsGlobal k (target k) (record old { reader = r }) mid to)
    (tells : TellsAll mid found.name (global.Alias number) (nat_le (suc number + others) 262144) in_order result) where
  abbrev a_one : ModuleReader
  a_one = record old { reader = r }

  module _ (s : Sofar) (operands : List ℕ) (front : IsInFront texts old s operands) (many : number ≡ length s.aliases) (behind : others ≡ max (length s.variables) (length s.functions)) (follows : in_order ≡ may_follow s.last 8) where
    abbrev a_walk : Walk
    a_walk = going operands None

    abbrev a_read : m.Alias × Option ℕ
    a_read = judged (records.alias s.texts s.k) operands

    abbrev a_count : ℕ
    a_count = suc (length s.aliases) + max (length s.variables) (length s.functions)

    a_types : types ≡ length s.k.types
    a_types = listed ∙ many_types old s.k front.numbers (subst (λ n. n < length old.growing.arena.table.types) listed fewer)

    a_is : ReadsAlias s.texts (length s.k.types) (record old.reader { walk = a_walk }) r found
    a_is =
        subst (λ w. ReadsAlias s.texts (length s.k.types) (record old.reader { walk = w }) r found) front.walk
        (subst (λ n. ReadsAlias s.texts n old.reader r found) a_types (subst (λ t. ReadsAlias t types old.reader r found) (sym front.texts_are) h))

    a_front_is : r.walk ≡ ((alias_front s.texts (length s.k.types)).read a_walk).1
    a_front_is = ap (λ (x : Reader). x.walk) a_is.reader

    a_numbers : Numbers a_one s.k
    a_numbers = record {
      types = front.numbers.types;
      structs_are = front.numbers.structs_are;
      targets = front.numbers.targets;
      globals = front.numbers.globals;
      values = front.numbers.values;
      blocks = front.numbers.blocks;
    }

    a_target : ReadsGlobal s.k (target s.k) a_one mid to
    a_target = reads s.k a_numbers

    -- the walk in front of the target
    a_before : r.walk ≡ ((either (ty s.k) (ty s.k & fields.truth & counted (ty s.k))).read (fields.linkage.read ((fields.name s.texts).read a_walk).1).1).1
    a_before = a_front_is ∙ alias_type_same s.k (fields.linkage.read ((fields.name s.texts).read a_walk).1).1

    a_walk_is : mid.reader.walk ≡ ((records.alias s.texts s.k).read a_walk).1
    a_walk_is = ap (λ (x : Reader). x.walk) a_target.reader ∙ ap (λ w. ((target s.k).read w).1) a_before

    a_rules : rules_of s a_read.0.name in_order (nat_le (suc number + others) 262144) (told mid.reader.walk) ≡ rules_of s a_read.0.name (may_follow s.last 8) (nat_le a_count 262144) a_read.1
    a_rules = λ j. rules_of s a_read.0.name (follows j) (nat_le (suc (many j) + behind j) 262144) (told (a_walk_is j))

    a_still : IsStill old mid
    a_still =
        let growing : mid.growing ≡ old.growing = ap (λ (x : ModuleReader). x.growing) takes.rest in
        takes.rest
        ∙ (ap (λ (x : ModuleReader). record x { reader = record x.reader { walk = mid.reader.walk } }) (still_reader old r _ h.reader)
        ∙ ap (λ (x : Growing). record old { growing = x; reader = record old.reader { walk = mid.reader.walk } }) (sym growing))

    a_at : mid.reader.at ≡ suc s.at
    a_at = ap (λ (x : ModuleReader). x.reader.at) a_still ∙ front.at

    module _ (new_told : IsToldNew old.growing.arena (global.Alias number) s a_read.0.name) where
      a_told : FinishesBy (IsRefusedAt mid.reader.at) (rules_of s a_read.0.name (may_follow s.last 8) (nat_le a_count 262144) a_read.1) result
      a_told =
          subst (λ o. FinishesBy (IsRefusedAt mid.reader.at) o result) a_rules
          (tells s a_read.0.name (subst (λ (x : ModuleReader). IsToldNew x.growing.arena (global.Alias number) s a_read.0.name) (sym takes.rest) new_told) a_is.name)

      pub alias_err : {A : Type 0} (means : A → Sofar → Type 0) (e : BitcodeFault) → result ≡ Err e → Answers means (records.alias_record s a_read) (Err e)
      alias_err means e is = answers_err means s.at mid.reader.at _ _ e a_at (subst (λ x. FinishesBy (IsRefusedAt mid.reader.at) (rules_of s a_read.0.name (may_follow s.last 8) (nat_le a_count 262144) a_read.1) x) is a_told)

      -- the target, where no rule is broken
      targeted : (new : ModuleReader) → EndsRecord mid new → is_broken mid.reader.walk ≡ false → (o : Option GlobalId) → IsKept (IsGlobal a_one.growing.arena) o ((target s.k).read r.walk).0 mid.reader.walk
          → (g : GlobalId) × (o ≡ Some g) × (name_at new.growing.arena g ≡ a_read.0.target)
      targeted new e unbroken None k = let broken : is_broken mid.reader.walk ≡ true = k in absurd (cc)
      targeted new e unbroken (Some g) k =
          let same : new.growing ≡ old.growing = same_growing mid new e ∙ ap (λ (x : ModuleReader). x.growing) takes.rest in (
            g,
            refl,
            ap (λ (x : Growing). name_at x.arena g) same ∙ (k.named ∙ ap (λ w. ((target s.k).read w).0) a_before),
          )

      pub alias_ok : (new : ModuleReader) → EndsRecord mid new → result ≡ Ok tt → Answers (entries.ReadsAlias s.texts s.k operands old new) (records.alias_record s a_read) (Ok to)
      alias_ok new e is =
          answers_ok (entries.ReadsAlias s.texts s.k operands old new) s.at mid.reader.at _ _ to
          (subst (λ x. FinishesBy (IsRefusedAt mid.reader.at) (rules_of s a_read.0.name (may_follow s.last 8) (nat_le a_count 262144) a_read.1) x) is a_told)
          (λ none.
          let last : a_read.1 ≡ None = none_of s a_read.0.name (may_follow s.last 8) (nat_le a_count 262144) a_read.1 none in
          let unbroken : is_broken mid.reader.walk ≡ false = told_unbroken mid.reader.walk (ap told a_walk_is ∙ last) in
          let before : is_broken r.walk ≡ false = was_unbroken a_one mid (goes_takes a_one mid takes) unbroken in
          record {
            passes = passed old mid new s _ a_still (subst (Grows old.growing) (sym (ap (λ (x : ModuleReader). x.growing) takes.rest)) (grows_self old.growing)) e front.at refl;
            there = subst (λ (x : Growing). IfSome to (HasGlobal (counts x.arena))) (sym (same_growing mid new e)) there;
            is = λ declared. targeted new e unbroken to (a_target.kept declared);
            good = good_name found.name a_read.0.name r.walk a_is.name a_is.named before;
            front = sym (ap is_broken a_front_is) ∙ before;
          })
