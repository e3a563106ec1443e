-- Parts after other parts: their entries under other part numbers.
use Rattle.std.proofs.Common.{◌≡◌, ℕ, suc, ◌+◌, ◌-◌, ◌<◌, ◌≤◌, List, [], ◌∷◌, ◌++◌, map, length, refl, sym, ap, ap₂, ◌∙◌, append_assoc, arith}
use Rattle.std.specs.List.{AllByRecursion}
use Rattle.std.proofs.lemmas.List.{map-append, get_or_append_left, get_or-append_right}
use Rattle.module_arena.specs.Module.{Module, empty_module}
use Rattle.module_arena.proofs.ModuleSet.{map_map}
use Rattle.linkage_rules.specs.Entries.{Entry, entries_from, structs_at, part_at}
use Rattle.linkage_rules.specs.Globals.{Global, globals}
use Rattle.linkage_rules.proofs.Gathered.{all_joined, all_mapped}
use Rattle.rejoined_runs.proofs.Lists.{all_true_of}

abbrev at : ℕ → Global → Entry
at i g = record { part = i; global = g }

-- the entries of two lists of parts
pub entries_joined : (i : ℕ) (a b : List Module)
    → entries_from i (a ++ b) ≡ entries_from i a ++ entries_from (i + length a) b
entries_joined i [] b = ap (λ k. entries_from k b) (omega arith)
entries_joined i (m ∷ a) b =
    ap (λ l. map (at i) (globals m) ++ l) (entries_joined (suc i) a b)
    ∙ sym (append_assoc (map (at i) (globals m)) (entries_from (suc i) a)
    (entries_from (suc i + length a) b))
    ∙ ap (λ k. (map (at i) (globals m) ++ entries_from (suc i) a) ++ entries_from k b) (omega arith)

-- the part numbers of some entries
pub entries_within : (i : ℕ) (ms : List Module)
    → AllByRecursion (λ e. (i ≤ e.part) × (e.part < i + length ms)) (entries_from i ms)
entries_within i [] = tt
entries_within i (m ∷ ms) =
    all_joined _ (map (at i) (globals m)) (entries_from (suc i) ms)
    (all_mapped _ (at i) (globals m) (all_true_of _ (λ g. (omega arith, omega arith)) (globals m)))
    (wider (entries_from (suc i) ms) (entries_within (suc i) ms))
  where
    wider : (es : List Entry)
        → AllByRecursion (λ e. (suc i ≤ e.part) × (e.part < suc i + length ms)) es
        → AllByRecursion (λ e. (i ≤ e.part) × (e.part < i + suc (length ms))) es
    wider [] all = tt
    wider (e ∷ es) all = let low = all.0.0 in let high =
        all.0.1 in ((omega arith, omega arith), wider es all.1)

-- the number that a part after the first `count` has, where those are one
abbrev pub shifted : ℕ → ℕ → ℕ
shifted count i = suc (i - count)

-- an entry of such a part
abbrev pub shift : ℕ → Entry → Entry
shift count e = record { part = shifted count e.part; global = e.global }

pub entries_shifted : (count k : ℕ) (ms : List Module)
    → entries_from (suc k) ms ≡ map (shift count) (entries_from (count + k) ms)
entries_shifted count k [] = refl
entries_shifted count k (m ∷ ms) =
    ap₂ (λ x y. x ++ y)
    ((λ i. map (at (suc (here i))) (globals m))
    ∙ sym (map_map (shift count) (at (count + k)) (globals m)))
    (entries_shifted count (suc k) ms ∙ ap (λ j. map (shift count) (entries_from j ms)) next)
    ∙ sym (map-append (shift count) (map (at (count + k)) (globals m))
    (entries_from (suc (count + k)) ms))
  where
    here : k ≡ (count + k) - count
    here = omega arith

    next : count + suc k ≡ suc (count + k)
    next = omega arith

module _ (a b : List Module) where
  pub part_before : (i : ℕ) → i < length a → part_at (a ++ b) i ≡ part_at a i
  part_before i h = get_or_append_left a b empty_module i h

  pub part_behind : (i : ℕ) → length a ≤ i → part_at (a ++ b) i ≡ part_at b (i - length a)
  part_behind i h = get_or-append_right a b (length a) i empty_module refl h

  pub structs_before : (i : ℕ) → i < length a → structs_at (a ++ b) i ≡ structs_at a i
  structs_before i h = ap (λ (m : Module). m.structs) (part_before i h)

  -- what one module in place of the first parts leaves
  pub structs_behind : (m : Module) (i : ℕ) → length a ≤ i
      → structs_at (m ∷ b) (shifted (length a) i) ≡ structs_at (a ++ b) i
  structs_behind m i h = ap (λ (n : Module). n.structs) (sym (part_behind i h))
