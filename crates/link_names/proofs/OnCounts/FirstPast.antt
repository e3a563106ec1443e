-- The first count past its limit, from the counts one after another.
use Rattle.std.proofs.Common.{◌≡◌, ℕ, ◌^◌, ◌-◌, ◌<◌, Bool, true, false, cond, List, [], ◌∷◌, ◌++◌, filter, flat_map, length, min, nat_lt, Option, Some, None, refl, sym, ap, ap₂, ◌∙◌, arith}
use Rattle.std.specs.Prelude.{filter_map}
use Rattle.std.specs.List.{cons_option}
use Rattle.std.proofs.Math.Nat.{min_comm, min-eq_left}
use Rattle.std.specs.Option.{option_map, option_or}
use Rattle.module_arena.specs.declared.fault.CountKind.{CountKind}
use Rattle.module_arena.specs.declared.fault.CountKind.TheVariants.{Structs, Variables, Functions, Aliases, AppendedBytes}
use Rattle.module_arena.specs.Module.{Module}
use Rattle.linkage_rules.specs.declared.symbol.Symbol.{Symbol}
use Rattle.linkage_rules.specs.Conflicts.{appends}
use Rattle.linkage_rules.specs.Entries.{Entry}
use Rattle.linkage_rules.specs.Lists.{first}
use Rattle.linkage_rules.specs.Symbols.{alias_symbols, function_symbols, variable_symbols}
use Rattle.linkage_rules.specs.Winner.{definitions, home}
use Rattle.linkage_rules.specs.Resolving.Places.{clamped}
use Rattle.link_rules.specs.Counts as linking
use Rattle.link_rules.specs.Counts.{appended_bytes, appended_count, count_of_aliases, first_past, limit}
use Rattle.link_rules.specs.Structs.{struct_map}
use Rattle.link_rules.proofs.LinkedAlone.{alone_or}
use Rattle.link_names.specs.declared.counts.counting.SymbolCounts.{SymbolCounts}
use Rattle.link_names.specs.declared.counts.limits.Count.{Count}
use Rattle.link_names.specs.Counts.Told.{appended_at, appended_of, count_of_bytes, entry, entry_counts, first_appended, past, told}
use Rattle.link_names.proofs.OnCounts.Clamped.{past_clamped}

-- the first count of structs or entries that is past its limit, as the code reads
abbrev pub first_entry_count : ℕ → SymbolCounts → Option Count
first_entry_count structs counts =
    option_or (option_or (option_or (past Structs structs) (past Variables counts.variables)) (past Functions counts.functions))
    (past Aliases (clamped (linking.count_of_aliases counts.variables counts.functions counts.aliases)))

or_told : (o p : Option Count) → option_map told (option_or o p) ≡ option_or (option_map told o) (option_map told p)
or_told None p = refl
or_told (Some c) p = refl

or_regroup : {A : Type 0} (a b c : Option A) → option_or (option_or a b) c ≡ option_or a (option_or b c)
or_regroup None b c = refl
or_regroup (Some x) b c = refl

abbrev own : CountKind → ℕ → Count
own kind n = record { kind = kind; number = n }

-- what is told of a count
abbrev cut : linking.Count → linking.Count
cut c = record { kind = c.kind; number = min (2 ^ 64 - 1) c.number }

-- those past their limits
abbrev counts_past : List linking.Count → List linking.Count
counts_past cs = filter (λ c. nat_lt (limit c.kind) c.number) cs

-- a count of entries or structs before others
entries_first : (kind : CountKind) (n m : ℕ) (rest : List linking.Count) → limit kind ≡ 262144 → m ≡ clamped n → 262144 < 2 ^ 64 - 1
    → first_past limit (entry kind n ∷ rest) ≡ option_or (option_map told (past kind m)) (first_past limit rest)
entries_first kind n m rest lim is small = go (nat_lt 262144 n) refl
  where
    told_number : m ≡ min (2 ^ 64 - 1) n
    told_number = is ∙ min_comm n (2 ^ 64 - 1)

    passes : (b : Bool) → nat_lt 262144 n ≡ b → nat_lt 262144 m ≡ b
    passes b e = ap (nat_lt 262144) is ∙ past_clamped (2 ^ 64 - 1) 262144 n small ∙ e

    go : (b : Bool) → nat_lt 262144 n ≡ b → first_past limit (entry kind n ∷ rest) ≡ option_or (option_map told (past kind m)) (first_past limit rest)
    go true e =
        ap (λ c. option_map cut (first (cond c (entry kind n ∷ counts_past rest) (counts_past rest)))) (ap (λ l. nat_lt l n) lim ∙ e)
        ∙ ap (λ k. Some (entry kind k)) (sym told_number)
        ∙ sym (ap (λ c. option_or (option_map told (cond c (Some (own kind m)) None)) (first_past limit rest)) (passes true e))
    go false e =
        ap (λ c. option_map cut (first (cond c (entry kind n ∷ counts_past rest) (counts_past rest)))) (ap (λ l. nat_lt l n) lim ∙ e)
        ∙ sym (ap (λ c. option_or (option_map told (cond c (Some (own kind m)) None)) (first_past limit rest)) (passes false e))

exact : (n : ℕ) → n < 2 ^ 64 → n ≡ clamped n
exact n few = sym (min-eq_left (omega (arith, few)))

-- the counts one after another
pub entries_told : (structs : ℕ) (counts : SymbolCounts) → 262144 < 2 ^ 64 - 1 → structs < 2 ^ 64 → counts.variables < 2 ^ 64 → counts.functions < 2 ^ 64
    → option_map told (first_entry_count structs counts) ≡ first_past limit (entry_counts structs counts)
entries_told structs counts small few_structs few_variables few_functions =
    or_told (option_or (option_or p_structs p_variables) p_functions) p_aliases
    ∙ ap (λ o. option_or o (option_map told p_aliases)) (or_told (option_or p_structs p_variables) p_functions ∙ ap (λ o. option_or o (option_map told p_functions)) (or_told p_structs p_variables))
    ∙ or_regroup (option_or (option_map told p_structs) (option_map told p_variables)) (option_map told p_functions) (option_map told p_aliases)
    ∙ or_regroup (option_map told p_structs) (option_map told p_variables) (option_or (option_map told p_functions) (option_map told p_aliases))
    ∙ sym (entries_first Structs structs structs (entry Variables counts.variables ∷ entry Functions counts.functions ∷ entry Aliases number ∷ []) refl (exact structs few_structs) small
    ∙ ap (option_or (option_map told p_structs)) (entries_first Variables counts.variables counts.variables (entry Functions counts.functions ∷ entry Aliases number ∷ []) refl (exact counts.variables few_variables) small
    ∙ ap (option_or (option_map told p_variables)) (entries_first Functions counts.functions counts.functions (entry Aliases number ∷ []) refl (exact counts.functions few_functions) small
    ∙ ap (option_or (option_map told p_functions)) (entries_first Aliases number (clamped number) [] refl refl small ∙ alone_or (option_map told p_aliases)))))
  where
    number : ℕ
    number = count_of_aliases counts.variables counts.functions counts.aliases

    p_structs : Option Count
    p_structs = past Structs structs

    p_variables : Option Count
    p_variables = past Variables counts.variables

    p_functions : Option Count
    p_functions = past Functions counts.functions

    p_aliases : Option Count
    p_aliases = past Aliases (clamped number)

-- what is told of appended bytes
abbrev pub bytes_told : ℕ → linking.Count
bytes_told n = entry AppendedBytes (min (2 ^ 64 - 1) n)

-- one size before others: those past the limit, and what is told of the first
size_first : (n : ℕ) (cs : List linking.Count) (ns : List ℕ) → first_past limit cs ≡ option_map bytes_told (first (filter (nat_lt (2 ^ 40)) ns))
    → first_past limit (entry AppendedBytes n ∷ cs) ≡ option_map bytes_told (first (filter (nat_lt (2 ^ 40)) (n ∷ ns)))
size_first n cs ns rest = go (nat_lt (2 ^ 40) n)
  where
    go : (b : Bool) → option_map cut (first (cond b (entry AppendedBytes n ∷ counts_past cs) (counts_past cs)))
        ≡ option_map bytes_told (first (cond b (n ∷ filter (nat_lt (2 ^ 40)) ns) (filter (nat_lt (2 ^ 40)) ns)))
    go true = refl
    go false = rest

-- the counts of some, and then of more
past_joined : (cs ds : List linking.Count) → first_past limit (cs ++ ds) ≡ option_or (first_past limit cs) (first_past limit ds)
past_joined [] ds = refl
past_joined (c ∷ cs) ds = go (nat_lt (limit c.kind) c.number) (past_joined cs ds)
  where
    go : (b : Bool) → first_past limit (cs ++ ds) ≡ option_or (first_past limit cs) (first_past limit ds)
        → option_map cut (first (cond b (c ∷ counts_past (cs ++ ds)) (counts_past (cs ++ ds)))) ≡ option_or (option_map cut (first (cond b (c ∷ counts_past cs) (counts_past cs)))) (first_past limit ds)
    go true e = refl
    go false e = e

module _ (parts : List Module) where
  abbrev appended_counts : List Symbol → List linking.Count
  appended_counts ss = flat_map (λ s. appended_count parts (definitions parts s) (home parts s)) ss

  -- one symbol before others
  symbol_first : (s : Symbol) (o : Option Entry) (cs : List linking.Count) (ns : List ℕ) → first_past limit cs ≡ option_map bytes_told (first (filter (nat_lt (2 ^ 40)) ns))
      → first_past limit (appended_count parts (definitions parts s) o ++ cs) ≡ option_map bytes_told (first (filter (nat_lt (2 ^ 40)) (cons_option (appended_at parts s o) ns)))
  symbol_first s None cs ns rest = rest
  symbol_first s (Some e) cs ns rest = go (appends e)
    where
      n : ℕ
      n = appended_bytes parts e (definitions parts s)

      go : (b : Bool) → first_past limit (cond b (entry AppendedBytes n ∷ []) [] ++ cs) ≡ option_map bytes_told (first (filter (nat_lt (2 ^ 40)) (cons_option (cond b (Some n) None) ns)))
      go true = size_first n cs ns rest
      go false = rest

  appended_first : (ss : List Symbol) → first_past limit (appended_counts ss) ≡ option_map bytes_told (first (filter (nat_lt (2 ^ 40)) (filter_map (appended_of parts) ss)))
  appended_first [] = refl
  appended_first (s ∷ ss) = symbol_first s (home parts s) (appended_counts ss) (filter_map (appended_of parts) ss) (appended_first ss)

  -- the first of the counts of entries and structs, or else of appended bytes
  pub all_told : (structs : ℕ) (counts : SymbolCounts) (o r : Option Count) (size : Option ℕ) → structs ≡ length (struct_map parts) → counts.variables ≡ length (variable_symbols parts) → counts.functions ≡ length (function_symbols parts)
      → counts.aliases ≡ length (alias_symbols parts) → option_map told o ≡ first_past limit (entry_counts structs counts) → size ≡ option_map clamped (first_appended parts) → r ≡ option_or o (count_of_bytes size) → option_map told r ≡ linking.too_many parts
  all_told structs counts o r size s v f a entries bytes is =
      ap (option_map told) is ∙ or_told o (count_of_bytes size)
      ∙ ap₂ option_or entries (ap (λ n. option_map told (count_of_bytes n)) bytes ∙ go (first_appended parts) ∙ sym (appended_first (variable_symbols parts)))
      ∙ sym (past_joined (entry_counts structs counts) (appended_counts (variable_symbols parts)))
      ∙ (λ j. first_past limit (entry Structs (s j) ∷ entry Variables (v j) ∷ entry Functions (f j) ∷ entry Aliases (count_of_aliases (v j) (f j) (a j)) ∷ appended_counts (variable_symbols parts)))
    where
      go : (b : Option ℕ) → option_map told (count_of_bytes (option_map clamped b)) ≡ option_map bytes_told b
      go None = refl
      go (Some n) = ap (λ k. Some (entry AppendedBytes k)) (min_comm n (2 ^ 64 - 1))
