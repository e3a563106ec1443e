-- Symbols of each kind, counted one after another.
use Rattle.std.proofs.Common.{◌≡◌, ℕ, ◌+◌, Bool, true, false, cond, List, [], ◌∷◌, ◌++◌, filter, length, length-append, take, Some, refl, sym, ap, ◌∙◌, arith}
use Rattle.std.specs.Prelude.{slice_get}
use Rattle.module_arena.specs.Module.{Module}
use Rattle.linkage_rules.specs.declared.symbol.Symbol.{Symbol}
use Rattle.linkage_rules.specs.declared.symbol.SymbolKind.{SymbolKind}
use Rattle.linkage_rules.specs.declared.symbol.SymbolKind.TheVariants as kind
use Rattle.linkage_rules.specs.Grouped.{kind_of, same_kind}
use Rattle.linkage_rules.specs.Symbols.{alias_symbols, function_symbols, symbols, variable_symbols}
use Rattle.linkage_rules.proofs.KindsAmong.{functions_among, variables_among}
use Rattle.linkage_rules.proofs.Steps.{filter_step, take_whole}
use Rattle.link_names.specs.Counts.Told.{count_of}

one_more : (b : Bool) (s : Symbol) → length (cond b (s ∷ []) []) ≡ cond b 1 0
one_more true s = refl
one_more false s = refl

-- one symbol more
pub count_more : (parts : List Module) (wanted : SymbolKind) (ss : List Symbol) (k : ℕ) (s : Symbol) (before after : ℕ) (found : SymbolKind) → slice_get ss k ≡ Some s → found ≡ kind_of parts s
    → before ≡ count_of parts wanted (take k ss) → after ≡ before + cond (same_kind wanted found) 1 0 → after ≡ count_of parts wanted (take (k + 1) ss)
count_more parts wanted ss k s before after found at is so_far more =
    let p : Symbol → Bool = λ x. same_kind wanted (kind_of parts x) in
    more
    ∙ ap (λ n. n + cond (same_kind wanted found) 1 0) so_far
    ∙ ap (λ f. count_of parts wanted (take k ss) + cond (same_kind wanted f) 1 0) is
    ∙ ap (λ n. count_of parts wanted (take k ss) + n) (sym (one_more (p s) s))
    ∙ sym (length-append (filter p (take k ss)) (cond (p s) (s ∷ []) []))
    ∙ sym (ap length (filter_step p ss k s at))

-- all of them
pub count_whole : (parts : List Module) (wanted : SymbolKind) (ss : List Symbol) (k count : ℕ) → k ≡ length ss → count ≡ count_of parts wanted (take k ss) → count ≡ count_of parts wanted ss
count_whole parts wanted ss k count end so_far = so_far ∙ ap (count_of parts wanted) (ap (λ n. take n ss) end ∙ take_whole ss)

module _ (parts : List Module) (ss : List Symbol) (all : ss ≡ symbols parts) where
  pub variables_counted : count_of parts kind.Variable ss ≡ length (variable_symbols parts)
  variables_counted = ap (count_of parts kind.Variable) all ∙ ap length (variables_among parts)

  pub functions_counted : count_of parts kind.Function ss ≡ length (function_symbols parts)
  functions_counted = ap (count_of parts kind.Function) all ∙ ap length (functions_among parts)

  -- what is no variable and no function is an alias
  pub aliases_counted : (variables functions aliases : ℕ) → variables ≡ count_of parts kind.Variable ss → functions ≡ count_of parts kind.Function ss → variables + functions + aliases ≡ length ss → aliases ≡ length (alias_symbols parts)
  aliases_counted variables functions aliases v f sum =
      let first = v ∙ variables_counted in
      let second = f ∙ functions_counted in
      let joined : length ss ≡ length (variable_symbols parts) + length (function_symbols parts) + length (alias_symbols parts) =
      ap length all
      ∙ length-append (variable_symbols parts ++ function_symbols parts) (alias_symbols parts)
      ∙ ap (λ n. n + length (alias_symbols parts)) (length-append (variable_symbols parts) (function_symbols parts)) in
      omega (arith, first, second, joined, sum)
