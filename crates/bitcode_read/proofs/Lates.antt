-- An entry more that was read behind the types.
use Rattle.std.proofs.Common.{◌≡◌, ◌<◌, ◌≤◌, ◌+◌, ℕ, suc, max, Bool, true, false, ◌&&◌, cond, List, [], ◌∷◌, ◌++◌, length, map, drop, All, Option, Some, None, nat_lt, nat_le, refl, sym, ap, subst, ◌∙◌, arith}
use Rattle.std.specs.Option.{option_map}
use Rattle.std.specs.Prelude.{IfSome, option_to_list}
use Rattle.std.proofs.lemmas.Bool.{and_parts, leb-true, ltb-true}
use Rattle.std.proofs.lemmas.List.{length-append, length-map, map-append, nil_from_length}
use Rattle.std.proofs.lemmas.List.Elements.{All-cons, All-nil, All-push}
use Rattle.type_table.specs.Types.{trees}
use Rattle.module_arena.specs.declared.entry.Alias as the_alias
use Rattle.module_arena.specs.declared.entry.Function as the_function
use Rattle.module_arena.specs.declared.entry.GlobalId.{GlobalId}
use Rattle.module_arena.specs.declared.entry.GlobalId.TheVariants as global
use Rattle.module_arena.specs.declared.entry.LocalName as the_local
use Rattle.module_arena.specs.declared.entry.Variable as the_variable
use Rattle.module_arena.specs.Changes.{with_alias, with_function, with_variable}
use Rattle.module_arena.specs.Known.{HasGlobal, counts}
use Rattle.module_arena.specs.Lists.{Lists, name_at}
use Rattle.module_arena.specs.Module as m
use Rattle.module_arena.specs.Module.{Bytes}
use Rattle.module_arena.specs.View.{alias_view, constants_of, variable_view}
use Rattle.module_arena.proofs.Found.{slice_get-beyond}
use Rattle.record_table.specs.Faults.{Records, a_record}
use Rattle.record_table.specs.Layout.{judged}
use Rattle.record_table.specs.Records as records
use Rattle.record_table.specs.Records.{is_new, may_follow}
use Rattle.record_read.specs.Reader.{is_broken}
use Rattle.type_read.specs.declared.arena.counts.GlobalCounts.{GlobalCounts}
use Rattle.type_read.specs.declared.arena.module_reader.ModuleReader.{ModuleReader}
use Rattle.type_read.specs.Arena.Growing.{Growing, Grows}
use Rattle.type_read.proofs.OnArena.Kept.{grows_two}
use Rattle.body_read.specs.Operands.Found.{Always}
use Rattle.bitcode_read.specs.Head.Fronts.{alias_front, function_front, variable_front}
use Rattle.bitcode_read.specs.Ahead.Bodies.{Foresees, due_of, names_given}
use Rattle.bitcode_read.specs.Ahead.Entries.{Declares, alias_entry, front_of, function_entry, names_behind, names_for, variable_entry}
use Rattle.bitcode_read.proofs.OnAhead.Told.{alias_told, function_told, variable_told}
use Rattle.bitcode_read.specs.Entry.Entries.{HasInitialiser, ReadsAlias, ReadsFunction, ReadsVariable}
use Rattle.bitcode_read.specs.Holding.Holding.{HasConstants, HasTargets, each_with, initialised_by}
use Rattle.bitcode_read.specs.declared.sofar.Sofar.{Sofar}
use Rattle.bitcode_read.specs.Sofar.{AreAliases, AreDeclared, AreFunctions, AreVariables, IsLate, counts_due}
use Rattle.bitcode_read.proofs.Functions.{IsMore, counts_more, functions_later, functions_more}
use Rattle.bitcode_read.proofs.Growing.{always_later, declared_now, name_same}
use Rattle.bitcode_read.proofs.Named.{aliases_many, declared_on, fits_alias, fits_function, fits_variable, follows, functions_many, new_is_free, variables_many}
use Rattle.bitcode_read.proofs.Values.{alias_is, declaration_is, due_is, parameters_long, variable_is}

-- ---- lists

each_push : {A B : Type 0} (put : A → Option B → A) (xs : List A) (os : List (Option B)) (x : A) (o : Option B) → length os ≡ length xs → each_with put (xs ++ x ∷ []) (os ++ o ∷ []) ≡ each_with put xs os ++ put x o ∷ []
each_push put [] [] x o e = refl
each_push put [] (p ∷ os) x o e = absurd (omega arith)
each_push put (y ∷ xs) [] x o e = absurd (omega arith)
each_push put (y ∷ xs) (p ∷ os) x o e = ap (λ l. put y p ∷ l) (each_push put xs os x o (omega arith))

mapped_push : {A B C : Type 0} (f : A → C) (put : A → Option B → A) (xs : List A) (os : List (Option B)) (read : List C) (x : A) (o : Option B) (r : C) → length os ≡ length xs → map f (each_with put xs os) ≡ read → f (put x o) ≡ r
    → map f (each_with put (xs ++ x ∷ []) (os ++ o ∷ [])) ≡ read ++ r ∷ []
mapped_push f put xs os read x o r long are is = ap (λ l. map f l) (each_push put xs os x o long) ∙ (map-append f (each_with put xs os) (put x o ∷ []) ∙ (λ j. are j ++ is j ∷ []))

same_long : {A B : Type 0} (xs : List A) (ys : List B) (x : A) (y : B) → length xs ≡ length ys → length (xs ++ x ∷ []) ≡ length (ys ++ y ∷ [])
same_long xs ys x y e = let l = length-append xs (x ∷ []) in let r = length-append ys (y ∷ []) in omega arith

named_push : {A B : Type 0} (f : A → Bytes) (g : B → Bytes) (xs : List A) (ys : List B) (x : A) (y : B) → map f xs ≡ map g ys → f x ≡ g y → map f (xs ++ x ∷ []) ≡ map g (ys ++ y ∷ [])
named_push f g xs ys x y are is = map-append f xs (x ∷ []) ∙ ((λ j. are j ++ is j ∷ []) ∙ sym (map-append g ys (y ∷ [])))

-- what may follow behind the types
pub after_types : (last place : ℕ) → (nat_le 5 last && nat_le last place) ≡ true → (5 ≤ last) × (last ≤ place)
after_types last place h = let p = and_parts (nat_le 5 last) (nat_le last place) h in (leb-true 5 last p.0, leb-true last place p.1)

-- ---- what entries hold

variables_more : (base : Lists) (g h : Growing) (D : Type 0) (vs : List the_variable.Variable) (os : List (Option ℕ)) (read : List m.Variable) (e : the_variable.Variable) (o : Option ℕ) (r : m.Variable) → Grows g h → AreVariables base g D vs os read
    → Always h (λ a. HasInitialiser a o) → (D → Always h (λ a. variable_view (trees base.table) (constants_of a) (record e { initialiser = o }) ≡ r)) → AreVariables base h D (vs ++ e ∷ []) (os ++ o ∷ []) (read ++ r ∷ [])
variables_more base g h D vs os read e o r grows v there is = record {
  many = same_long os vs o e v.many;
  there = λ later on. All-push (λ (p : Option ℕ). All (λ id. id < length later.arena.constants) (option_to_list p)) os o (v.there later (grows_two g h later grows on)) (there later on);
  are = λ all. λ later on.
      mapped_push (variable_view (trees base.table) (constants_of later.arena)) (λ (x : the_variable.Variable) (p : Option ℕ). record x { initialiser = p }) vs os read e o r v.many (v.are all later (grows_two g h later grows on)) (is all later on);
}

pub variables_later : (base : Lists) (g h : Growing) (D : Type 0) (vs : List the_variable.Variable) (os : List (Option ℕ)) (read : List m.Variable) → Grows g h → AreVariables base g D vs os read → AreVariables base h D vs os read
variables_later base g h D vs os read grows v = record {
  many = v.many;
  there = always_later g h (λ a. HasConstants a os) grows v.there;
  are = λ all. always_later g h (λ a. map (variable_view (trees base.table) (constants_of a)) (initialised_by vs os) ≡ read) grows (v.are all);
}

aliases_more : (base : Lists) (g h : Growing) (D : Type 0) (xs : List the_alias.Alias) (os : List (Option GlobalId)) (read : List m.Alias) (e : the_alias.Alias) (o : Option GlobalId) (r : m.Alias) → Grows g h → AreAliases base g D xs os read
    → Always h (λ a. All (HasGlobal (counts a)) (option_to_list o)) → (D → alias_view (trees base.table) (name_at base) (record e { target = o }) ≡ r) → AreAliases base h D (xs ++ e ∷ []) (os ++ o ∷ []) (read ++ r ∷ [])
aliases_more base g h D xs os read e o r grows v there is = record {
  many = same_long os xs o e v.many;
  there = λ later on. All-push (λ (p : Option GlobalId). All (HasGlobal (counts later.arena)) (option_to_list p)) os o (v.there later (grows_two g h later grows on)) (there later on);
  are = λ all. mapped_push (alias_view (trees base.table) (name_at base)) (λ (x : the_alias.Alias) (p : Option GlobalId). record x { target = p }) xs os read e o r v.many (v.are all) (is all);
}

pub aliases_later : (base : Lists) (g h : Growing) (D : Type 0) (xs : List the_alias.Alias) (os : List (Option GlobalId)) (read : List m.Alias) → Grows g h → AreAliases base g D xs os read → AreAliases base h D xs os read
aliases_later base g h D xs os read grows v = record { many = v.many; there = always_later g h (λ a. HasTargets a os) grows v.there; are = v.are }

-- a target stays in the arena
target_there : (h : Growing) (o : Option GlobalId) → IfSome o (HasGlobal (counts h.arena)) → Always h (λ a. All (HasGlobal (counts a)) (option_to_list o))
target_there h None there = λ later on. All-nil (HasGlobal (counts later.arena))
target_there h (Some g) there = λ later on.
    let is : later.arena ≡ record h.arena { constants = later.arena.constants } = ap (λ (x : Growing). x.arena) on.rest in
    All-cons (HasGlobal (counts later.arena)) g [] (subst (λ (a : Lists). HasGlobal (counts a) g) (sym is) there) (All-nil (HasGlobal (counts later.arena)))

-- ---- a variable

module _ (old new : ModuleReader) (b b2 : Sofar) (s : records.Sofar) (operands : List ℕ) (behind : Records) where
  module _ (o : Option ℕ) (t : records.Sofar) (l : IsLate old b s (a_record 5 operands behind)) (may : may_follow s.last 6 ≡ true) (few : nat_lt (length s.variables) 0x4_0000 ≡ true)
      (is_one : is_new s (judged (records.variable s.texts s.k) operands).0.name ≡ true) (v : ReadsVariable s.texts s.k operands old new o t) (more : b2.initialisers.items ≡ b.initialisers.items ++ o ∷ []) where
    abbrev v_read : m.Variable
    v_read = (judged (records.variable s.texts s.k) operands).0

    abbrev v_entry : the_variable.Variable
    v_entry = variable_entry (front_of (variable_front s.texts (length s.k.types)) operands).0

    v_alone : l.a.aliases ≡ []
    v_alone =
        let last = after_types s.last 6 may in
        let none = ap (λ (xs : List m.Alias). length xs) (l.alone (omega (arith, last.1))) in
        nil_from_length l.a.aliases (aliases_many l.a s l.called ∙ none)

    v_less : length l.a.variables < 262144
    v_less = let less : length s.variables < 262144 = ltb-true (length s.variables) 0x4_0000 few in let many = variables_many l.a s l.called in omega (arith, less, many)

    v_declared : Declares s.texts (length s.k.types) l.base l.later (with_variable l.a v_entry) behind
    v_declared =
        declared_on l.a (with_variable l.a v_entry) l.base v_entry.name (front_of (variable_front s.texts (length s.k.types)) operands).1 (Declares s.texts (length s.k.types) l.base l.later (with_variable l.a v_entry) behind) l.declares v.front
        (λ same. new_is_free l.a l.base s (global.Variable (length l.a.variables)) v_entry.name (variable_told s.texts (length s.k.types) l.base l.later l.a s operands behind l.distinct (follows l.a s l.called) l.declares) is_one
        (ap (option_map (λ (x : the_variable.Variable). x.name)) (slice_get-beyond l.a.variables)) same)
        (λ same. fits_variable l.a l.base l.good same v_entry v_alone v_less)

    pub variable_late : IsLate new (record b { initialisers = b2.initialisers; last = b2.last }) (record s { variables = s.variables ++ v_read ∷ []; at = suc s.at; last = 6 }) behind
    variable_late =
        let D = AreDeclared l.base old.globals s.k in
        let globals : new.globals ≡ old.globals = ap (λ (x : ModuleReader). x.globals) v.passes.rest in
        record {
          late = omega arith;
          alone = λ less. l.alone (let last = after_types s.last 6 may in omega (arith, last.1));
          base = l.base;
          a = with_variable l.a v_entry;
          begun = l.begun;
          over = l.over;
          grows = grows_two l.begun old.growing new.growing l.grows v.passes.grows;
          good = l.good;
          good_types = l.good_types;
          distinct = l.distinct;
          types = l.types;
          structs_are = l.structs_are;
          later = l.later;
          declares = v_declared;
          unset = All-push (λ (x : the_variable.Variable). x.initialiser ≡ None) l.a.variables v_entry l.unset refl;
          untargeted = l.untargeted;
          undefined = l.undefined;
          called = record {
            variables = named_push (λ (x : the_variable.Variable). x.name) (λ (x : m.Variable). x.name) l.a.variables s.variables v_entry v_read l.called.variables refl;
            functions = l.called.functions;
            aliases = l.called.aliases;
          };
          foresees = l.foresees;
          variables = subst (λ (os : List (Option ℕ)). AreVariables l.base new.growing (AreDeclared l.base new.globals s.k) (l.a.variables ++ v_entry ∷ []) os (s.variables ++ v_read ∷ [])) (sym more)
              (subst (λ (c : GlobalCounts). AreVariables l.base new.growing (AreDeclared l.base c s.k) (l.a.variables ++ v_entry ∷ []) (b.initialisers.items ++ o ∷ []) (s.variables ++ v_read ∷ [])) (sym globals)
              (variables_more l.base old.growing new.growing D l.a.variables b.initialisers.items s.variables v_entry o v_read v.passes.grows l.variables v.there
              (λ all. λ later on. variable_is l.base (constants_of later.arena) s.texts s.k operands o l.types (v.is (declared_now old s.k l.base l.begun l.over l.grows all) later on))));
          aliases = subst (λ (c : GlobalCounts). AreAliases l.base new.growing (AreDeclared l.base c s.k) l.a.aliases b.targets.items s.aliases) (sym globals)
              (aliases_later l.base old.growing new.growing D l.a.aliases b.targets.items s.aliases v.passes.grows l.aliases);
          functions = subst (λ (c : GlobalCounts). AreFunctions l.base new.growing (AreDeclared l.base c s.k) l.later l.a.functions b.defined.items b.bodies.items (map names_given (drop (length b.bodies.items) b.ahead.items)) s.functions) (sym globals)
              (functions_later l.base old.growing new.growing D l.later v.passes.grows l.a.functions b.defined.items b.bodies.items (map names_given (drop (length b.bodies.items) b.ahead.items)) s.functions l.functions);
        }

  -- ---- a function

  module _ (defined : Bool) (t : records.Sofar) (l : IsLate old b s (a_record 6 operands behind)) (may : may_follow s.last 7 ≡ true) (few : nat_lt (length s.functions) 0x4_0000 ≡ true)
      (is_one : is_new s (judged (records.function s.texts s.k) operands).0.1.name ≡ true) (v : ReadsFunction s.texts s.k operands old new defined t) (unbroken : is_broken (front_of (function_front s.texts (length s.k.types)) operands).1 ≡ false)
      (more : b2.defined.items ≡ b.defined.items ++ defined ∷ []) where
    abbrev f_read : Bool × m.Function
    f_read = (judged (records.function s.texts s.k) operands).0

    abbrev f_after : List (List the_local.LocalName)
    f_after = names_behind f_read.0 l.later

    abbrev f_entry : the_function.Function
    f_entry = function_entry (names_for f_read.0 l.later) (front_of (function_front s.texts (length s.k.types)) operands).0

    f_alone : l.a.aliases ≡ []
    f_alone =
        let last = after_types s.last 7 may in
        let none = ap (λ (xs : List m.Alias). length xs) (l.alone (omega (arith, last.1))) in
        nil_from_length l.a.aliases (aliases_many l.a s l.called ∙ none)

    f_less : length l.a.functions < 262144
    f_less = let less : length s.functions < 262144 = ltb-true (length s.functions) 0x4_0000 few in let many = functions_many l.a s l.called in omega (arith, less, many)

    f_declared : Declares s.texts (length s.k.types) l.base f_after (with_function l.a f_entry) behind
    f_declared =
        declared_on l.a (with_function l.a f_entry) l.base f_entry.name (front_of (function_front s.texts (length s.k.types)) operands).1 (Declares s.texts (length s.k.types) l.base f_after (with_function l.a f_entry) behind) l.declares unbroken
        (λ same. new_is_free l.a l.base s (global.Function (length l.a.functions)) f_entry.name (function_told s.texts (length s.k.types) l.base l.later l.a s operands behind l.distinct (follows l.a s l.called) l.declares) is_one
        (ap (option_map (λ (x : the_function.Function). x.name)) (slice_get-beyond l.a.functions)) same)
        (λ same. fits_function l.a l.base l.good same f_entry f_alone f_less)

    f_more : IsMore l.base l.later f_after f_entry f_read.0 f_read
    f_more = by f_read.0 refl
      where
        by : (d : Bool) → f_read.0 ≡ d → IsMore l.base l.later (names_behind d l.later) (function_entry (names_for d l.later) (front_of (function_front s.texts (length s.k.types)) operands).0) d f_read
        by false e = (declaration_is l.base s.texts s.k operands l.types e, refl)
        by true e = (due_is l.base s.texts s.k operands l.types (names_for true l.later) e, refl)

    f_due : counts_due (f_read ∷ []) ≡ due_of (judged (function_front s.texts (length s.k.types)) operands).0
    f_due = by f_read.0 f_read.1 (sym (length-map f_read.1.parameters (λ (p : m.Parameter). p.ty)) ∙ parameters_long l.base s.texts s.k operands l.types)
      where
        by : (d : Bool) (h : m.Function) {n : ℕ} → length h.parameters ≡ n → counts_due ((d, h) ∷ []) ≡ cond d (n ∷ []) []
        by true h e = ap (λ n. n ∷ []) e
        by false h e = refl

    pub function_late : IsLate new (record b { defined = b2.defined; numbers = b2.numbers; last = b2.last }) (record s { functions = s.functions ++ f_read ∷ []; at = suc s.at; last = 7 }) behind
    function_late =
        let D = AreDeclared l.base old.globals s.k in
        let globals : new.globals ≡ old.globals = ap (λ (x : ModuleReader). x.globals) v.passes.rest in
        let ahead = drop (length b.bodies.items) b.ahead.items in
        record {
          late = omega arith;
          alone = λ less. l.alone (let last = after_types s.last 7 may in omega (arith, last.1));
          base = l.base;
          a = with_function l.a f_entry;
          begun = l.begun;
          over = l.over;
          grows = grows_two l.begun old.growing new.growing l.grows v.passes.grows;
          good = l.good;
          good_types = l.good_types;
          distinct = l.distinct;
          types = l.types;
          structs_are = l.structs_are;
          later = f_after;
          declares = f_declared;
          unset = l.unset;
          untargeted = l.untargeted;
          undefined = All-push (λ (x : the_function.Function). x.body ≡ None) l.a.functions f_entry l.undefined refl;
          called = record {
            variables = l.called.variables;
            functions = named_push (λ (x : the_function.Function). x.name) (λ (x : Bool × m.Function). x.1.name) l.a.functions s.functions f_entry f_read l.called.functions refl;
            aliases = l.called.aliases;
          };
          foresees = subst (λ due. Foresees s.texts s.k (length s.k.types) due ahead behind) (sym (counts_more s.functions f_read (due_of (judged (function_front s.texts (length s.k.types)) operands).0) f_due)) (l.foresees v.front);
          variables = subst (λ (c : GlobalCounts). AreVariables l.base new.growing (AreDeclared l.base c s.k) l.a.variables b.initialisers.items s.variables) (sym globals)
              (variables_later l.base old.growing new.growing D l.a.variables b.initialisers.items s.variables v.passes.grows l.variables);
          aliases = subst (λ (c : GlobalCounts). AreAliases l.base new.growing (AreDeclared l.base c s.k) l.a.aliases b.targets.items s.aliases) (sym globals)
              (aliases_later l.base old.growing new.growing D l.a.aliases b.targets.items s.aliases v.passes.grows l.aliases);
          functions = subst (λ (ds : List Bool). AreFunctions l.base new.growing (AreDeclared l.base new.globals s.k) f_after (l.a.functions ++ f_entry ∷ []) ds b.bodies.items (map names_given ahead) (s.functions ++ f_read ∷ []))
              (sym (more ∙ ap (λ d. b.defined.items ++ d ∷ []) v.is))
              (subst (λ (c : GlobalCounts). AreFunctions l.base new.growing (AreDeclared l.base c s.k) f_after (l.a.functions ++ f_entry ∷ []) (b.defined.items ++ f_read.0 ∷ []) b.bodies.items (map names_given ahead) (s.functions ++ f_read ∷ [])) (sym globals)
              (functions_more l.base new.growing D l.later f_after f_entry f_read.0 f_read f_more l.a.functions b.defined.items b.bodies.items (map names_given ahead) s.functions
              (functions_later l.base old.growing new.growing D l.later v.passes.grows l.a.functions b.defined.items b.bodies.items (map names_given ahead) s.functions l.functions)));
        }

  -- ---- an alias

  module _ (o : Option GlobalId) (t : records.Sofar) (l : IsLate old b s (a_record 7 operands behind)) (few : nat_le (suc (length s.aliases) + max (length s.variables) (length s.functions)) 0x4_0000 ≡ true)
      (is_one : is_new s (judged (records.alias s.texts s.k) operands).0.name ≡ true) (v : ReadsAlias s.texts s.k operands old new o t) (more : b2.targets.items ≡ b.targets.items ++ o ∷ []) where
    abbrev x_read : m.Alias
    x_read = (judged (records.alias s.texts s.k) operands).0

    abbrev x_entry : the_alias.Alias
    x_entry = alias_entry (front_of (alias_front s.texts (length s.k.types)) operands).0

    x_fits : suc (length l.a.aliases) + max (length l.a.variables) (length l.a.functions) ≤ 262144
    x_fits =
        let fits : suc (length s.aliases) + max (length s.variables) (length s.functions) ≤ 262144 = leb-true (suc (length s.aliases) + max (length s.variables) (length s.functions)) 0x4_0000 few in
        subst (λ (n : ℕ). suc n + max (length l.a.variables) (length l.a.functions) ≤ 262144) (sym (aliases_many l.a s l.called))
        (subst (λ (n : ℕ). suc (length s.aliases) + max n (length l.a.functions) ≤ 262144) (sym (variables_many l.a s l.called))
        (subst (λ (n : ℕ). suc (length s.aliases) + max (length s.variables) n ≤ 262144) (sym (functions_many l.a s l.called)) fits))

    x_declared : Declares s.texts (length s.k.types) l.base l.later (with_alias l.a x_entry) behind
    x_declared =
        declared_on l.a (with_alias l.a x_entry) l.base x_entry.name (front_of (alias_front s.texts (length s.k.types)) operands).1 (Declares s.texts (length s.k.types) l.base l.later (with_alias l.a x_entry) behind) l.declares v.front
        (λ same. new_is_free l.a l.base s (global.Alias (length l.a.aliases)) x_entry.name (alias_told s.texts (length s.k.types) l.base l.later l.a s operands behind l.distinct (follows l.a s l.called) l.declares) is_one
        (ap (option_map (λ (x : the_alias.Alias). x.name)) (slice_get-beyond l.a.aliases)) same)
        (λ same. fits_alias l.a l.base l.good same x_entry x_fits)

    x_is : AreDeclared l.base old.globals s.k → alias_view (trees l.base.table) (name_at l.base) (record x_entry { target = o }) ≡ x_read
    x_is all =
        let p = v.is (declared_now old s.k l.base l.begun l.over l.grows all) in
        let grows = grows_two l.begun old.growing new.growing l.grows v.passes.grows in
        ap (λ (q : Option GlobalId). alias_view (trees l.base.table) (name_at l.base) (record x_entry { target = q })) p.1
        ∙ alias_is l.base s.texts s.k operands p.0 l.types (sym (name_same l.base l.begun new.growing l.over grows p.0) ∙ p.2)

    pub alias_late : IsLate new (record b { targets = b2.targets; last = b2.last }) (record s { aliases = s.aliases ++ x_read ∷ []; at = suc s.at; last = 8 }) behind
    alias_late =
        let D = AreDeclared l.base old.globals s.k in
        let globals : new.globals ≡ old.globals = ap (λ (x : ModuleReader). x.globals) v.passes.rest in
        record {
          late = omega arith;
          alone = λ less. absurd (omega (arith, less));
          base = l.base;
          a = with_alias l.a x_entry;
          begun = l.begun;
          over = l.over;
          grows = grows_two l.begun old.growing new.growing l.grows v.passes.grows;
          good = l.good;
          good_types = l.good_types;
          distinct = l.distinct;
          types = l.types;
          structs_are = l.structs_are;
          later = l.later;
          declares = x_declared;
          unset = l.unset;
          untargeted = All-push (λ (x : the_alias.Alias). x.target ≡ None) l.a.aliases x_entry l.untargeted refl;
          undefined = l.undefined;
          called = record {
            variables = l.called.variables;
            functions = l.called.functions;
            aliases = named_push (λ (x : the_alias.Alias). x.name) (λ (x : m.Alias). x.name) l.a.aliases s.aliases x_entry x_read l.called.aliases refl;
          };
          foresees = l.foresees;
          variables = subst (λ (c : GlobalCounts). AreVariables l.base new.growing (AreDeclared l.base c s.k) l.a.variables b.initialisers.items s.variables) (sym globals)
              (variables_later l.base old.growing new.growing D l.a.variables b.initialisers.items s.variables v.passes.grows l.variables);
          aliases = subst (λ (os : List (Option GlobalId)). AreAliases l.base new.growing (AreDeclared l.base new.globals s.k) (l.a.aliases ++ x_entry ∷ []) os (s.aliases ++ x_read ∷ [])) (sym more)
              (subst (λ (c : GlobalCounts). AreAliases l.base new.growing (AreDeclared l.base c s.k) (l.a.aliases ++ x_entry ∷ []) (b.targets.items ++ o ∷ []) (s.aliases ++ x_read ∷ [])) (sym globals)
              (aliases_more l.base old.growing new.growing D l.a.aliases b.targets.items s.aliases x_entry o x_read v.passes.grows l.aliases (target_there new.growing o v.there) x_is));
          functions = subst (λ (c : GlobalCounts). AreFunctions l.base new.growing (AreDeclared l.base c s.k) l.later l.a.functions b.defined.items b.bodies.items (map names_given (drop (length b.bodies.items) b.ahead.items)) s.functions) (sym globals)
              (functions_later l.base old.growing new.growing D l.later v.passes.grows l.a.functions b.defined.items b.bodies.items (map names_given (drop (length b.bodies.items) b.ahead.items)) s.functions l.functions);
        }
