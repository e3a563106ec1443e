-- The records of variables, functions and aliases, against what was read so far.
use Rattle.std.proofs.Common.{◌≡◌, ◌⊎◌, ◌≤◌, ◌+◌, ℕ, suc, max, Bool, true, false, List, [], ◌∷◌, ◌++◌, length, map, drop, All, Option, None, nat_le, nat_lt, inl, inr, refl, sym, ap, subst, ◌∙◌, arith}
use Rattle.std.specs.Prelude.{Ok}
use Rattle.std.proofs.lemmas.List.{map-append}
use Rattle.std.proofs.lemmas.List.Elements.{All-push}
use Rattle.module_arena.specs.declared.entry.GlobalId.{GlobalId}
use Rattle.module_arena.specs.declared.entry.GlobalId.TheVariants as global
use Rattle.module_arena.specs.Lists.{Lists}
use Rattle.module_arena.specs.Module as m
use Rattle.module_arena.specs.Module.{Bytes}
use Rattle.record_table.specs.Faults.{Records, a_record, also}
use Rattle.record_table.specs.Fields.{Texts}
use Rattle.record_table.specs.Layout.{judged}
use Rattle.record_table.specs.Records as records
use Rattle.record_table.specs.Records.{is_new, may_follow}
use Rattle.record_table.specs.Walk.{going}
use Rattle.record_law.proofs.OnLabels.Kept.{also_held}
use Rattle.type_read.specs.Fields.{is_good}
use Rattle.type_read.specs.declared.arena.counts.GlobalCounts.{GlobalCounts}
use Rattle.type_read.specs.declared.arena.counts.LocalCounts.{LocalCounts}
use Rattle.type_read.specs.declared.arena.module_reader.ModuleReader.{ModuleReader}
use Rattle.type_read.specs.Arena.Numbered.{Numbers}
use Rattle.bitcode_read.specs.Head.Ahead.{AreCounted}
use Rattle.bitcode_read.specs.declared.head.ahead.ModuleAhead.{ModuleAhead}
use Rattle.bitcode_read.specs.Head.Fronts.{function_front}
use Rattle.bitcode_read.specs.Ahead.Bodies.{names_given}
use Rattle.bitcode_read.proofs.OnAhead.Told.{alias_told, bad_new, function_told, variable_told}
use Rattle.bitcode_read.specs.Entry.Entries.{IsInFront, IsToldNew, Passes, ReadsAlias, ReadsFunction, ReadsVariable}
use Rattle.record_law.proofs.OnFormed.Sofar.{is_placed}
use Rattle.bitcode_read.proofs.OnEntry.Ended.{told_unbroken}
use Rattle.bitcode_read.specs.declared.sofar.Sofar.{Sofar}
use Rattle.bitcode_read.specs.Sofar.{AreDeclared, AreGood, IsEarly, IsLate, IsPast, IsSofar}
use Rattle.bitcode_read.proofs.Functions.{functions_long}
use Rattle.bitcode_read.proofs.Growing.{global_same, numbers_later}
use Rattle.bitcode_read.proofs.Lates.{after_types, alias_late, function_late, variable_late}
use Rattle.bitcode_read.proofs.Named.{aliases_many, follows, functions_many, told_early, told_on, variables_many}

good_new : (s : records.Sofar) (n : Bytes) → AreGood s → is_good n ≡ false → is_new s n ≡ true
good_new s n g bad = bad_new s n (record { variables = g.variables; functions = g.functions; aliases = g.aliases }) bad

good_push : {A : Type 0} (name : A → Bytes) (xs : List A) (x : A) → All (λ n. is_good n ≡ true) (map name xs) → is_good (name x) ≡ true → All (λ n. is_good n ≡ true) (map name (xs ++ x ∷ []))
good_push name xs x all good = subst (λ (ns : List Bytes). All (λ n. is_good n ≡ true) ns) (sym (map-append name xs (x ∷ []))) (All-push (λ n. is_good n ≡ true) (map name xs) (name x) all good)

-- ---- in front of the record

module _ (texts : Texts) (all : Records) (known : ModuleAhead) (old : ModuleReader) (b : Sofar) (s : records.Sofar) where
  pub in_front : (rest : Records) (operands : List ℕ) → IsSofar texts all known old b s rest → old.reader.walk ≡ going operands None → old.reader.at ≡ suc s.at → IsInFront texts old s operands
  in_front rest operands h walk at = record { numbers = h.numbers; texts_are = h.texts_are; walk = walk; at = at }

  both_none : {A B : Type 0} (xs : List A) (ys : List B) → xs ≡ [] → ys ≡ [] → length xs ≡ length ys
  both_none xs ys e f = ap length e ∙ sym (ap length f)

  pub variables_count : (rest : Records) → IsSofar texts all known old b s rest → length b.initialisers.items ≡ length s.variables
  variables_count rest h = by h.part
    where
      by : IsEarly texts all known old b s rest ⊎ IsLate old b s rest → length b.initialisers.items ≡ length s.variables
      by (inl e) = both_none b.initialisers.items s.variables e.no_initialisers e.no_variables
      by (inr l) = l.variables.many ∙ variables_many l.a s l.called

  pub aliases_count : (rest : Records) → IsSofar texts all known old b s rest → length b.targets.items ≡ length s.aliases
  aliases_count rest h = by h.part
    where
      by : IsEarly texts all known old b s rest ⊎ IsLate old b s rest → length b.targets.items ≡ length s.aliases
      by (inl e) = both_none b.targets.items s.aliases e.no_targets e.no_aliases
      by (inr l) = l.aliases.many ∙ aliases_many l.a s l.called

  pub functions_count : (rest : Records) → IsSofar texts all known old b s rest → length b.defined.items ≡ length s.functions
  functions_count rest h = by h.part
    where
      by : IsEarly texts all known old b s rest ⊎ IsLate old b s rest → length b.defined.items ≡ length s.functions
      by (inl e) = both_none b.defined.items s.functions e.none_defined e.no_functions
      by (inr l) = functions_long l.base old.growing (AreDeclared l.base old.globals s.k) l.later l.a.functions b.defined.items b.bodies.items (map names_given (drop (length b.bodies.items) b.ahead.items)) s.functions l.functions

  module _ (operands : List ℕ) (behind : Records) where
    pub variable_new : IsSofar texts all known old b s (a_record 5 operands behind) → (number : ℕ) → number ≡ length s.variables → IsToldNew old.growing.arena (global.Variable number) s (judged (records.variable s.texts s.k) operands).0.name
    variable_new h number is = by h.part
      where
        name : Bytes
        name = (judged (records.variable s.texts s.k) operands).0.name

        by : IsEarly texts all known old b s (a_record 5 operands behind) ⊎ IsLate old b s (a_record 5 operands behind) → IsToldNew old.growing.arena (global.Variable number) s name
        by (inl e) =
            told_early old.growing.arena s (global.Variable number) name (ap (λ (x : Lists). x.variables) e.over.arena) (ap (λ (x : Lists). x.functions) e.over.arena) (ap (λ (x : Lists). x.aliases) e.over.arena) e.no_variables e.no_functions e.no_aliases
            (good_new s name h.good)
        by (inr l) =
            told_on l.base old.growing.arena s (global.Variable (length l.a.variables)) (global.Variable number) name (global_same l.base l.begun old.growing l.over l.grows) (ap (λ n. global.Variable n) (variables_many l.a s l.called ∙ sym is))
            (variable_told s.texts (length s.k.types) l.base l.later l.a s operands behind l.distinct (follows l.a s l.called) l.declares) (good_new s name h.good)

    pub function_new : IsSofar texts all known old b s (a_record 6 operands behind) → (number : ℕ) → number ≡ length s.functions → IsToldNew old.growing.arena (global.Function number) s (judged (records.function s.texts s.k) operands).0.1.name
    function_new h number is = by h.part
      where
        name : Bytes
        name = (judged (records.function s.texts s.k) operands).0.1.name

        by : IsEarly texts all known old b s (a_record 6 operands behind) ⊎ IsLate old b s (a_record 6 operands behind) → IsToldNew old.growing.arena (global.Function number) s name
        by (inl e) =
            told_early old.growing.arena s (global.Function number) name (ap (λ (x : Lists). x.variables) e.over.arena) (ap (λ (x : Lists). x.functions) e.over.arena) (ap (λ (x : Lists). x.aliases) e.over.arena) e.no_variables e.no_functions e.no_aliases
            (good_new s name h.good)
        by (inr l) =
            told_on l.base old.growing.arena s (global.Function (length l.a.functions)) (global.Function number) name (global_same l.base l.begun old.growing l.over l.grows) (ap (λ n. global.Function n) (functions_many l.a s l.called ∙ sym is))
            (function_told s.texts (length s.k.types) l.base l.later l.a s operands behind l.distinct (follows l.a s l.called) l.declares) (good_new s name h.good)

    pub alias_new : IsSofar texts all known old b s (a_record 7 operands behind) → (number : ℕ) → number ≡ length s.aliases → IsToldNew old.growing.arena (global.Alias number) s (judged (records.alias s.texts s.k) operands).0.name
    alias_new h number is = by h.part
      where
        name : Bytes
        name = (judged (records.alias s.texts s.k) operands).0.name

        by : IsEarly texts all known old b s (a_record 7 operands behind) ⊎ IsLate old b s (a_record 7 operands behind) → IsToldNew old.growing.arena (global.Alias number) s name
        by (inl e) =
            told_early old.growing.arena s (global.Alias number) name (ap (λ (x : Lists). x.variables) e.over.arena) (ap (λ (x : Lists). x.functions) e.over.arena) (ap (λ (x : Lists). x.aliases) e.over.arena) e.no_variables e.no_functions e.no_aliases
            (good_new s name h.good)
        by (inr l) =
            told_on l.base old.growing.arena s (global.Alias (length l.a.aliases)) (global.Alias number) name (global_same l.base l.begun old.growing l.over l.grows) (ap (λ n. global.Alias n) (aliases_many l.a s l.called ∙ sym is))
            (alias_told s.texts (length s.k.types) l.base l.later l.a s operands behind l.distinct (follows l.a s l.called) l.declares) (good_new s name h.good)

-- ---- behind it

module _ (texts : Texts) (all : Records) (known : ModuleAhead) (old new : ModuleReader) (b b2 : Sofar) (s t : records.Sofar) where
  -- what stays of it all
  kept : (rest behind : Records) (made : records.Sofar) → IsSofar texts all known old b s rest → Passes old new t → made.texts ≡ s.texts → made.k ≡ s.k → made.last ≡ b2.last → b2.source ≡ made.source → b2.layout ≡ made.layout → b2.triple ≡ made.triple
      → AreGood made → IsLate new b2 made behind → IsSofar texts all known new b2 made behind
  kept rest behind made h passes texts_are k_is last source layout triple good late = record {
    texts_are = texts_are ∙ h.texts_are;
    last = last;
    source = source;
    layout = layout;
    triple = triple;
    numbers = subst (λ k. Numbers new k) (sym k_is) (numbers_later old new s.k passes.rest passes.grows h.numbers);
    counted = subst (λ (c : GlobalCounts). AreCounted texts all c) (sym (ap (λ (x : ModuleReader). x.globals) passes.rest)) h.counted;
    outside = subst (λ (c : LocalCounts). (c.values ≡ 0) × (c.blocks ≡ 0)) (sym (ap (λ (x : ModuleReader). x.locals) passes.rest)) h.outside;
    good = good;
    part = inr late;
  }

  passed : Passes old new t → IsPast old new t
  passed p = record { spent = p.spent; left = p.left; at = p.at }

  module _ (operands : List ℕ) (behind : Records) where
    never_early : (place : ℕ) (rest : Records) (X : Type 0) → 5 ≤ s.last → IsEarly texts all known old b s rest → X
    never_early place rest X late e = let early = e.early in absurd (omega (arith, early, late))

    pub variable_sofar : (o : Option ℕ) → IsSofar texts all known old b s (a_record 5 operands behind) → records.variable_record s (judged (records.variable s.texts s.k) operands) ≡ Ok t → ReadsVariable s.texts s.k operands old new o t
        → b2.initialisers.items ≡ b.initialisers.items ++ o ∷ [] → 6 ≡ b2.last → b2 ≡ record b { initialisers = b2.initialisers; last = b2.last } → IsSofar texts all known new b2 t behind × IsPast old new t
    variable_sofar o h e v more last same =
        let x = judged (records.variable s.texts s.k) operands in
        let few = nat_lt (length s.variables) 0x4_0000 in
        let made : records.Sofar = record s { variables = s.variables ++ x.0 ∷ []; at = suc s.at; last = 6 } in
        let p = is_placed s 6 (also 7 few (also 4 (is_new s x.0.name) x.1)) (record s { variables = s.variables ++ x.0 ∷ [] }) t e in
        let seven = also_held 7 few (also 4 (is_new s x.0.name) x.1) p.unbroken in
        let four = also_held 4 (is_new s x.0.name) x.1 seven.1 in
        let late : IsLate new b2 made behind = by h.part p.may seven.0 four.0 in (
          subst (λ (u : records.Sofar). IsSofar texts all known new b2 u behind) p.same
              (kept (a_record 5 operands behind) behind made h v.passes refl refl last (ap (λ (y : Sofar). y.source) same ∙ h.source) (ap (λ (y : Sofar). y.layout) same ∙ h.layout) (ap (λ (y : Sofar). y.triple) same ∙ h.triple)
              (record { variables = good_push (λ (y : m.Variable). y.name) s.variables x.0 h.good.variables v.good; functions = h.good.functions; aliases = h.good.aliases }) late),
          passed v.passes,
        )
      where
        by : IsEarly texts all known old b s (a_record 5 operands behind) ⊎ IsLate old b s (a_record 5 operands behind) → may_follow s.last 6 ≡ true → nat_lt (length s.variables) 0x4_0000 ≡ true
            → is_new s (judged (records.variable s.texts s.k) operands).0.name ≡ true → IsLate new b2 (record s { variables = s.variables ++ (judged (records.variable s.texts s.k) operands).0 ∷ []; at = suc s.at; last = 6 }) behind
        by (inl e) may few new_name = never_early 6 (a_record 5 operands behind) _ (after_types s.last 6 may).0 e
        by (inr l) may few new_name = subst (λ (y : Sofar). IsLate new y (record s { variables = s.variables ++ (judged (records.variable s.texts s.k) operands).0 ∷ []; at = suc s.at; last = 6 }) behind) (sym same)
            (variable_late old new b b2 s operands behind o t l may few new_name v more)

    pub function_sofar : (defined : Bool) → IsSofar texts all known old b s (a_record 6 operands behind) → records.function_record s (judged (records.function s.texts s.k) operands) ≡ Ok t → ReadsFunction s.texts s.k operands old new defined t
        → b2.defined.items ≡ b.defined.items ++ defined ∷ [] → 7 ≡ b2.last → b2 ≡ record b { defined = b2.defined; numbers = b2.numbers; last = b2.last } → IsSofar texts all known new b2 t behind × IsPast old new t
    function_sofar defined h e v more last same =
        let x = judged (records.function s.texts s.k) operands in
        let few = nat_lt (length s.functions) 0x4_0000 in
        let made : records.Sofar = record s { functions = s.functions ++ x.0 ∷ []; at = suc s.at; last = 7 } in
        let p = is_placed s 7 (also 7 few (also 4 (is_new s x.0.1.name) x.1)) (record s { functions = s.functions ++ x.0 ∷ [] }) t e in
        let seven = also_held 7 few (also 4 (is_new s x.0.1.name) x.1) p.unbroken in
        let four = also_held 4 (is_new s x.0.1.name) x.1 seven.1 in
        let late : IsLate new b2 made behind = by h.part p.may seven.0 four.0 in (
          subst (λ (u : records.Sofar). IsSofar texts all known new b2 u behind) p.same
              (kept (a_record 6 operands behind) behind made h v.passes refl refl last (ap (λ (y : Sofar). y.source) same ∙ h.source) (ap (λ (y : Sofar). y.layout) same ∙ h.layout) (ap (λ (y : Sofar). y.triple) same ∙ h.triple)
              (record { variables = h.good.variables; functions = good_push (λ (y : Bool × m.Function). y.1.name) s.functions x.0 h.good.functions v.good; aliases = h.good.aliases }) late),
          passed v.passes,
        )
      where
        by : IsEarly texts all known old b s (a_record 6 operands behind) ⊎ IsLate old b s (a_record 6 operands behind) → may_follow s.last 7 ≡ true → nat_lt (length s.functions) 0x4_0000 ≡ true
            → is_new s (judged (records.function s.texts s.k) operands).0.1.name ≡ true → IsLate new b2 (record s { functions = s.functions ++ (judged (records.function s.texts s.k) operands).0 ∷ []; at = suc s.at; last = 7 }) behind
        by (inl e) may few new_name = never_early 7 (a_record 6 operands behind) _ (after_types s.last 7 may).0 e
        by (inr l) may few new_name = subst (λ (y : Sofar). IsLate new y (record s { functions = s.functions ++ (judged (records.function s.texts s.k) operands).0 ∷ []; at = suc s.at; last = 7 }) behind) (sym same)
            (function_late old new b b2 s operands behind defined t l may few new_name v (told_unbroken ((function_front s.texts (length s.k.types)).read (going operands None)).1 v.front) more)

    pub alias_sofar : (o : Option GlobalId) → IsSofar texts all known old b s (a_record 7 operands behind) → records.alias_record s (judged (records.alias s.texts s.k) operands) ≡ Ok t → ReadsAlias s.texts s.k operands old new o t
        → b2.targets.items ≡ b.targets.items ++ o ∷ [] → 8 ≡ b2.last → b2 ≡ record b { targets = b2.targets; last = b2.last } → IsSofar texts all known new b2 t behind × IsPast old new t
    alias_sofar o h e v more last same =
        let x = judged (records.alias s.texts s.k) operands in
        let few = nat_le (suc (length s.aliases) + max (length s.variables) (length s.functions)) 0x4_0000 in
        let made : records.Sofar = record s { aliases = s.aliases ++ x.0 ∷ []; at = suc s.at; last = 8 } in
        let p = is_placed s 8 (also 7 few (also 4 (is_new s x.0.name) x.1)) (record s { aliases = s.aliases ++ x.0 ∷ [] }) t e in
        let seven = also_held 7 few (also 4 (is_new s x.0.name) x.1) p.unbroken in
        let four = also_held 4 (is_new s x.0.name) x.1 seven.1 in
        let late : IsLate new b2 made behind = by h.part p.may seven.0 four.0 in (
          subst (λ (u : records.Sofar). IsSofar texts all known new b2 u behind) p.same
              (kept (a_record 7 operands behind) behind made h v.passes refl refl last (ap (λ (y : Sofar). y.source) same ∙ h.source) (ap (λ (y : Sofar). y.layout) same ∙ h.layout) (ap (λ (y : Sofar). y.triple) same ∙ h.triple)
              (record { variables = h.good.variables; functions = h.good.functions; aliases = good_push (λ (y : m.Alias). y.name) s.aliases x.0 h.good.aliases v.good }) late),
          passed v.passes,
        )
      where
        by : IsEarly texts all known old b s (a_record 7 operands behind) ⊎ IsLate old b s (a_record 7 operands behind) → may_follow s.last 8 ≡ true → nat_le (suc (length s.aliases) + max (length s.variables) (length s.functions)) 0x4_0000 ≡ true
            → is_new s (judged (records.alias s.texts s.k) operands).0.name ≡ true → IsLate new b2 (record s { aliases = s.aliases ++ (judged (records.alias s.texts s.k) operands).0 ∷ []; at = suc s.at; last = 8 }) behind
        by (inl e) may few new_name = never_early 8 (a_record 7 operands behind) _ (after_types s.last 8 may).0 e
        by (inr l) may few new_name = subst (λ (y : Sofar). IsLate new y (record s { aliases = s.aliases ++ (judged (records.alias s.texts s.k) operands).0 ∷ []; at = suc s.at; last = 8 }) behind) (sym same)
            (alias_late old new b b2 s operands behind o t l few new_name v more)
