-- A module that is read is well formed.
use Rattle.std.proofs.Common.{◌≡◌, ◌≤◌, ◌+◌, ℕ, suc, max, Bool, true, false, ◌&&◌, cond, List, [], ◌∷◌, ◌++◌, length, map, flat_map, Option, Some, None, nat_lt, nat_le, nat_eq, bytes_eq, refl, sym, ap, subst, ◌∙◌, arith, ◌⊎◌, inl, inr, append-nil, append_assoc}
use Rattle.std.specs.Prelude.{Ok, Err, is_some}
use Rattle.std.specs.List.{list_all, list_any, AllByRecursion}
use Rattle.std.proofs.lemmas.Bool.{and_from, le-leb, ltb-false}
use Rattle.std.proofs.lemmas.List.{length-map}
use Rattle.bit_tree.specs.Stream.{StreamTree}
use Rattle.module_arena.specs.Functions.{blocks}
use Rattle.module_arena.specs.Module.{Bytes, Variable, Alias, Function, Module}
use Rattle.module_arena.specs.Names as arena
use Rattle.module_arena.specs.WellFormed.{IsWellFormed, are_good_names, count_for_aliases, global_names, has_entry, has_few_entries, is_good_alias, is_good_constant, is_good_function, is_good_text, is_good_variable, known_of_block, known_of_variable}
use Rattle.record_table.specs.Faults.{Answer, ◌>>=◌, Records, no_more, a_block, a_record, BadRecord, ForeignProducer, UnknownRecord, also, is_block_id, records, unless_broken}
use Rattle.record_table.specs.Fields.{Texts, version_1}
use Rattle.record_table.specs.Layout.{judged, to_end}
use Rattle.record_table.specs.Fields as fields
use Rattle.record_table.specs.StringTable.{read_only}
use Rattle.record_table.specs.Records.{Sofar, StandFor, ReadTable, at_first, block_in, ended, first_due, is_ours, module_behind, module_block, module_from, module_of, names_of, nothing_behind, producer_from, read, record_in, table, table_ended}
use Rattle.record_law.proofs.OnLabels.Kept.{unless_ok}
use Rattle.record_law.proofs.OnFormed.Good.{AreTexts}
use Rattle.record_law.proofs.OnFormed.Tests.{all_pass, both_of, each_map, each_too}
use Rattle.record_law.proofs.OnFormed.Texts.{bytes_read}
use Rattle.record_law.proofs.OnFormed.Unbroken.{OfSome, judged_read}
use Rattle.record_law.proofs.OnFormed.Good.{IsOf}
use Rattle.record_law.proofs.OnFormed.Blocks.{all_flat}
use Rattle.record_law.proofs.OnFormed.Entries.{IsAlias, IsFunction, IsVariable}
use Rattle.record_law.proofs.OnFormed.Lists.{all_both, middle_named}
use Rattle.record_law.proofs.OnFormed.Records.{block_step, never_misplaced, record_step, then_ok}
use Rattle.record_law.proofs.OnFormed.Sofar.{AreGood, IsSoFar, IsTyped, aliases_named, functions_named, variables_named}

-- ---- the end of the block

text_told : (o : Option Bytes) → OfSome (λ b. arena.are_bytes b ≡ true) o → is_good_text o ≡ true
text_told None h = refl
text_told (Some bytes) h = h

aliases_few : (as_ : List Alias) (vs : List Variable) (fs : List Function) → (as_ ≡ []) ⊎ (length as_ + max (length vs) (length fs) ≤ 262144) → nat_le (count_for_aliases as_ vs fs) 262144 ≡ true
aliases_few [] vs fs h = refl
aliases_few (a ∷ as_) vs fs (inl none) = absurd (cc)
aliases_few (a ∷ as_) vs fs (inr few) = le-leb (length (a ∷ as_) + max (length vs) (length fs)) 262144 few

functions_again : (fs : List (Bool × Function)) → map (λ (f : Function). f.name) (map (λ (f : Bool × Function). f.1) fs) ≡ map (λ (f : Bool × Function). f.1.name) fs
functions_again [] = refl
functions_again (f ∷ fs) = ap (λ (ns : List Bytes). f.1.name ∷ ns) (functions_again fs)

module _ (t : Texts) (all : Records) (s : Sofar) (h : IsSoFar t all no_more s) (late : 5 ≤ s.last) where
  abbrev m : Module
  m = module_of s

  typed : IsTyped s.k
  typed = h.late late

  -- the names of the module are those of what was read
  names_are : global_names m ≡ variables_named s ++ (aliases_named s ++ functions_named s)
  names_are = ap (λ (ns : List Bytes). variables_named s ++ (aliases_named s ++ ns)) (functions_again s.functions)

  all_named : (front xs back : List Bytes) → global_names m ≡ front ++ (xs ++ back) → list_all (has_entry m) xs ≡ true
  all_named front xs back e = subst (λ (ns : List Bytes). list_all (λ n. list_any (bytes_eq n) ns) xs ≡ true) (sym e) (middle_named front xs back)

  entries : list_all (has_entry m) s.k.globals ≡ true
  entries =
      let V = variables_named s in
      let A = aliases_named s in
      let F = functions_named s in
      let v : names_of t 5 all ≡ V = h.named.variables ∙ append-nil V in
      let f : names_of t 6 all ≡ F = h.named.functions ∙ append-nil F in
      let a : names_of t 7 all ≡ A = h.named.aliases ∙ append-nil A in
      let globals : s.k.globals ≡ (V ++ F) ++ A =
      h.globals_are ∙ (ap (λ (ns : List Bytes). ns ++ names_of t 7 all) h.targets_are
      ∙ (ap (λ (ns : List Bytes). (ns ++ names_of t 6 all) ++ names_of t 7 all) v ∙ (ap (λ (ns : List Bytes). (V ++ ns) ++ names_of t 7 all) f ∙ ap (λ (ns : List Bytes). (V ++ F) ++ ns) a))) in
      let last : global_names m ≡ (V ++ A) ++ (F ++ []) =
      names_are ∙ (sym (append_assoc V A F) ∙ ap (λ (ns : List Bytes). (V ++ A) ++ ns) (sym (append-nil F))) in
      subst (λ (ns : List Bytes). list_all (has_entry m) ns ≡ true) (sym globals)
      (all_both (has_entry m) (V ++ F) A
      (all_both (has_entry m) V F (all_named [] V (A ++ F) names_are) (all_named (V ++ A) F [] last))
      (all_named V A F names_are))

  of : IsOf m s.k
  of = record { structs_are = refl; structs_good = typed.structs_good; types_good = typed.types_good; entries = entries }

  good : AreGood m s
  good = h.good m of

  names_good : AllByRecursion (λ n. arena.is_name n ≡ true) (variables_named s ++ (aliases_named s ++ functions_named s))
  names_good =
      both_of (λ n. arena.is_name n ≡ true) (variables_named s) (aliases_named s ++ functions_named s)
      (each_map (λ n. arena.is_name n ≡ true) (λ (v : Variable). v.name) s.variables (each_too (IsVariable m) (λ (v : Variable). arena.is_name v.name ≡ true) s.variables (λ v g. g.named) good.variables))
      (both_of (λ n. arena.is_name n ≡ true) (aliases_named s) (functions_named s)
      (each_map (λ n. arena.is_name n ≡ true) (λ (a : Alias). a.name) s.aliases (each_too (IsAlias m) (λ (a : Alias). arena.is_name a.name ≡ true) s.aliases (λ a g. g.named) good.aliases))
      (each_map (λ n. arena.is_name n ≡ true) (λ (f : Bool × Function). f.1.name) s.functions (each_too (IsFunction m) (λ (f : Bool × Function). arena.is_name f.1.name ≡ true) s.functions (λ f g. g.named) good.functions)))

  functions_good : AllByRecursion (λ f. is_good_function m f ≡ true) (map (λ (f : Bool × Function). f.1) s.functions)
  functions_good = each_map (λ f. is_good_function m f ≡ true) (λ (f : Bool × Function). f.1) s.functions (each_too (IsFunction m) (λ (f : Bool × Function). is_good_function m f.1 ≡ true) s.functions (λ f g. g.good) good.functions)

  functions_known : AllByRecursion (λ (f : Function). list_all (is_good_constant m) (flat_map known_of_block (blocks f)) ≡ true) (map (λ (f : Bool × Function). f.1) s.functions)
  functions_known =
      each_map (λ (f : Function). list_all (is_good_constant m) (flat_map known_of_block (blocks f)) ≡ true) (λ (f : Bool × Function). f.1) s.functions
      (each_too (IsFunction m) (λ (f : Bool × Function). list_all (is_good_constant m) (flat_map known_of_block (blocks f.1)) ≡ true) s.functions (λ f g. g.constants_good) good.functions)

  few_entries : has_few_entries m ≡ true
  few_entries =
      let many = length-map s.functions (λ (f : Bool × Function). f.1) in
      let functions = h.few.functions in
      and_from (nat_le (length s.k.structs) 262144) _ typed.few
      (and_from (nat_le (length s.variables) 262144) _ (le-leb (length s.variables) 262144 h.few.variables)
      (and_from (nat_le (length m.functions) 262144) _ (le-leb (length m.functions) 262144 (omega (arith, many, functions)))
      (aliases_few s.aliases s.variables m.functions (subst (λ n. (s.aliases ≡ []) ⊎ (length s.aliases + max (length s.variables) n ≤ 262144)) (sym many) h.few.aliases))))

  pub well_formed : IsWellFormed m
  well_formed = record {
    texts = and_from (is_good_text s.source) _ (text_told s.source h.texts_good.source)
        (and_from (is_good_text s.layout) (is_good_text s.triple) (text_told s.layout h.texts_good.layout) (text_told s.triple h.texts_good.triple));
    few = few_entries;
    struct_names = typed.names_good;
    global_names = subst (λ (ns : List Bytes). are_good_names ns ≡ true) (sym names_are)
        (and_from (list_all arena.is_name (variables_named s ++ (aliases_named s ++ functions_named s))) _ (all_pass arena.is_name (variables_named s ++ (aliases_named s ++ functions_named s)) names_good) h.distinct);
    structs = typed.structs_good;
    variables = all_pass (is_good_variable m) s.variables (each_too (IsVariable m) (λ v. is_good_variable m v ≡ true) s.variables (λ v g. g.good) good.variables);
    aliases = all_pass (is_good_alias m) s.aliases (each_too (IsAlias m) (λ a. is_good_alias m a ≡ true) s.aliases (λ a g. g.good) good.aliases);
    functions = all_pass (is_good_function m) m.functions functions_good;
    constants = all_both (is_good_constant m) (flat_map known_of_variable s.variables) (flat_map (λ (f : Function). flat_map known_of_block (blocks f)) m.functions)
        (all_flat (is_good_constant m) known_of_variable s.variables (each_too (IsVariable m) (λ v. list_all (is_good_constant m) (known_of_variable v) ≡ true) s.variables (λ v g. g.constants_good) good.variables))
        (all_flat (is_good_constant m) (λ (f : Function). flat_map known_of_block (blocks f)) m.functions functions_known);
  }

-- ---- the whole block

module _ (t : Texts) (are : AreTexts t) (all : Records) where
  ended_good : (s u : Sofar) → IsSoFar t all no_more s → ended s ≡ Ok u → IsWellFormed (module_of u)
  ended_good s u h e = by (nat_eq s.last 0) (nat_lt s.last 5) (is_some (first_due s.functions)) refl e
    where
      by : (b c d : Bool) → nat_lt s.last 5 ≡ c
          → cond {A = Answer Sofar} b (Err (BadRecord 8 s.at 5)) (cond {A = Answer Sofar} c (Err (BadRecord 17 s.at 5)) (cond {A = Answer Sofar} d (Err (BadRecord 12 s.at 5)) (Ok s))) ≡ Ok u → IsWellFormed (module_of u)
      by true c d is e = absurd (cc)
      by false true d is e = absurd (cc)
      by false false true is e = absurd (cc)
      by false false false is e = let same : s ≡ u = cc in subst (λ (v : Sofar). IsWellFormed (module_of v)) same (well_formed t all s h (ltb-false s.last 5 is))

  from_good : (s u : Sofar) (rest : Records) → IsSoFar t all rest s → module_from s rest ≡ Ok u → IsWellFormed (module_of u)
  from_good s u no_more h e = ended_good s u h e
  from_good s u (a_block id inside behind) h e = by (λ v h e. from_good v u behind h e)
    where
      by : ((v : Sofar) → IsSoFar t all behind v → module_from v behind ≡ Ok u → IsWellFormed (module_of u)) → IsWellFormed (module_of u)
      by others = let x = then_ok (block_in s id inside) (λ v. module_from v behind) u e in others x.0 (block_step t are all s x.0 id inside behind h x.1.0) x.1.1
  from_good s u (a_record code operands behind) h e = by (λ v h e. from_good v u behind h e)
    where
      by : ((v : Sofar) → IsSoFar t all behind v → module_from v behind ≡ Ok u → IsWellFormed (module_of u)) → IsWellFormed (module_of u)
      by others = let x = then_ok (record_in s code operands) (λ v. module_from v behind) u e in others x.0 (record_step t are all s x.0 code operands behind h x.1.0) x.1.1

  first_so_far : (at : ℕ) → IsSoFar t all all (at_first t at all)
  first_so_far at = record {
    texts_are = refl;
    targets_are = refl;
    globals_are = refl;
    named = record { variables = refl; functions = refl; aliases = refl };
    distinct = refl;
    texts_good = record { source = tt; layout = tt; triple = tt };
    few = record { variables = omega arith; functions = omega arith; aliases = inl refl };
    good = λ m of. record { variables = tt; functions = tt; aliases = tt };
    early = λ less. record { variables = refl; functions = refl; aliases = refl };
    alone = λ less. refl;
    late = λ more. absurd (omega (arith, more));
  }

-- the module's block, where texts stand so
behind_good : (s : Sofar) (m : Module) (behind : Records) → IsWellFormed (module_of s) → nothing_behind s behind ≡ Ok m → IsWellFormed m
behind_good s m no_more h e = let same : module_of s ≡ m = cc in subst IsWellFormed same h
behind_good s m (a_block id inside behind) h e = absurd (never_misplaced id s.at (is_block_id id) m e)
behind_good s m (a_record code operands behind) h e = absurd (cc)

block_good : (t : Texts) → AreTexts t → (at : ℕ) (rest : Records) (m : Module) → module_block t at rest ≡ Ok m → IsWellFormed m
block_good t are at no_more m e = absurd (cc)
block_good t are at (a_record code operands behind) m e = absurd (cc)
block_good t are at (a_block id inside behind) m e = by (nat_eq id 8) e
  where
    by : (b : Bool) → cond {A = Answer Module} b (module_from (at_first t at inside) inside >>= λ s. nothing_behind s behind) (cond {A = Answer Module} (is_block_id id) (Err (BadRecord id at 5)) (Err (UnknownRecord id 0))) ≡ Ok m → IsWellFormed m
    by true e =
        let x = then_ok (module_from (at_first t at inside) inside) (λ s. nothing_behind s behind) m e in
        behind_good x.0 m behind (from_good t are inside (at_first t at inside) x.0 inside (first_so_far t are inside at) x.1.0) x.1.1
    by false e = absurd (never_misplaced id at (is_block_id id) m e)

-- ---- the string table

table_kept : (t u : ReadTable) (rest : Records) → table_ended t rest ≡ Ok u → t ≡ u
table_kept t u no_more e = cc
table_kept t u (a_block id inside behind) e = absurd (never_misplaced id t.at (is_block_id id) u e)
table_kept t u (a_record code operands behind) e = by (nat_eq code 1) e
  where
    by : (b : Bool) → cond {A = Answer ReadTable} b (unless_broken 23 t.at (also 5 false (judged (to_end fields.byte) operands).1) t) (Err (UnknownRecord 23 code)) ≡ Ok u → t ≡ u
    by true e = (unless_ok 23 t.at (also 5 false (judged (to_end fields.byte) operands).1) t u e).1
    by false e = absurd (cc)

table_bytes : (at : ℕ) (rest : Records) (u : ReadTable) → table at rest ≡ Ok u → arena.are_bytes u.bytes ≡ true
table_bytes at no_more u e = absurd (cc)
table_bytes at (a_block id inside behind) u e = absurd (never_misplaced id at (is_block_id id) u e)
table_bytes at (a_record code operands behind) u e = by (nat_eq code 1) e
  where
    made : ReadTable
    made = record { at = suc at; bytes = (judged (to_end fields.byte) operands).0 }

    by : (b : Bool) → cond {A = Answer ReadTable} b (unless_broken 23 at (judged (to_end fields.byte) operands).1 made >>= λ t. table_ended t behind) (Err (UnknownRecord 23 code)) ≡ Ok u → arena.are_bytes u.bytes ≡ true
    by true e =
        let x = judged (to_end fields.byte) operands in
        let y = then_ok (unless_broken 23 at x.1 made) (λ t. table_ended t behind) u e in
        let one = unless_ok 23 at x.1 made y.0 y.1.0 in
        let same : made ≡ u = one.1 ∙ table_kept y.0 u behind y.1.1 in
        subst (λ (v : ReadTable). arena.are_bytes v.bytes ≡ true) same (judged_read (λ b. arena.are_bytes b ≡ true) (to_end fields.byte) bytes_read operands one.0)
    by false e = absurd (cc)

-- ---- the whole stream

module_good : (at : ℕ) (rest : Records) (m : Module) → module_behind at rest ≡ Ok m → IsWellFormed m
module_good at no_more m e = absurd (cc)
module_good at (a_record code operands behind) m e = absurd (cc)
module_good at (a_block id inside behind) m e = by (nat_eq id 23) e
  where
    by : (b : Bool) → cond {A = Answer Module} b (table at inside >>= λ t. module_block (read_only t.bytes) t.at behind) (module_block version_1 at (a_block id inside behind)) ≡ Ok m → IsWellFormed m
    by true e =
        let x = then_ok (table at inside) (λ t. module_block (read_only t.bytes) t.at behind) m e in
        block_good (read_only x.0.bytes) (inr (x.0.bytes, table_bytes at inside x.0 x.1.0, refl)) x.0.at behind m x.1.1
    by false e = block_good version_1 (inl refl) at (a_block id inside behind) m e

read_good : (all : Records) (m : Module) → read all ≡ Ok m → IsWellFormed m
read_good no_more m e = absurd (cc)
read_good (a_record code operands behind) m e = absurd (cc)
read_good (a_block id inside behind) m e = by (nat_eq id 13 && is_ours inside) e
  where
    by : (b : Bool) → cond {A = Answer Module} b (producer_from 0 inside >>= λ at. module_behind at behind) (Err ForeignProducer) ≡ Ok m → IsWellFormed m
    by true e = let x = then_ok (producer_from 0 inside) (λ at. module_behind at behind) m e in module_good x.0 behind m x.1.1
    by false e = absurd (cc)

-- a module that a tree stands for
pub stands_well : (tree : StreamTree) (m : Module) → StandFor tree m → IsWellFormed m
stands_well tree m h = read_good (records tree) m h
