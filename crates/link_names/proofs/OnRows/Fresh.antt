-- New names depend on which names are taken alone, in whatever order these are kept.
use Rattle.std.proofs.Common.{◌≡◌, ◌⊎◌, inl, inr, ℕ, zero, suc, ◌<◌, ◌≤◌, Bool, true, false, cond, List, ◌++◌, length, refl, ap, ap₂, ◌∙◌, bytes_eq, arith}
use Rattle.std.proofs.lemmas.Bool.{both_ways, cases_order}
use Rattle.module_arena.specs.Module.{Bytes}
use Rattle.linkage_rules.specs.Lists.{has}
use Rattle.link_rules.specs.Rename.{dotted, least, fresh, new_name}
use Rattle.link_rules.proofs.Names.{fresh_free}
use Rattle.link_names.specs.Naming.{SameNames, AllTaken}
use Rattle.link_names.proofs.FirstFree.{first_or_later, fresh_same}
use Rattle.link_names.proofs.Given.{joined_same}

module _ (names : List Bytes) (base : Bytes) where
  -- the least number is none before the first
  least_above : (room n : ℕ) → n ≤ least room names base n
  least_above zero n = omega arith
  least_above (suc room) n = go (has bytes_eq names (dotted base n)) (least_above room (suc n))
    where
      go : (b : Bool) → suc n ≤ least room names base (suc n) → n ≤ cond b (least room names base (suc n)) n
      go true h = omega (arith, h)
      go false h = omega arith

  -- all before it are taken
  least_taken : (room first n : ℕ) → first ≤ n → n < least room names base first → has bytes_eq names (dotted base n) ≡ true
  least_taken zero first n le lt = absurd (omega (arith, le, lt))
  least_taken (suc room) first n le lt = go (has bytes_eq names (dotted base first)) refl lt (least_taken room (suc first) n)
    where
      go : (b : Bool) → has bytes_eq names (dotted base first) ≡ b → n < cond b (least room names base (suc first)) first
          → (suc first ≤ n → n < least room names base (suc first) → has bytes_eq names (dotted base n) ≡ true) → has bytes_eq names (dotted base n) ≡ true
      go false e below more = absurd (omega (arith, le, below))
      go true e below more = elim (first_or_later first n le) [
        | inl here ↦ ap (λ k. has bytes_eq names (dotted base k)) here ∙ e
        | inr later ↦ more later below
      ]

  -- the first number that is free is the least
  first_free_is : (n : ℕ) → 1 ≤ n → AllTaken names base n → has bytes_eq names (dotted base n) ≡ false → fresh names base ≡ dotted base n
  first_free_is n first before free = ap (dotted base) (same (cases_order (least (length names) names base 1) n))
    where
      from : 1 ≤ least (length names) names base 1
      from = least_above (length names) 1

      same : (least (length names) names base 1 ≡ n) ⊎ ((least (length names) names base 1 < n) ⊎ (n < least (length names) names base 1)) → least (length names) names base 1 ≡ n
      same (inl is) = is
      same (inr (inl less)) = absurd (both_ways _ (fresh_free names base) (before (least (length names) names base 1) from less))
      same (inr (inr more)) = absurd (both_ways _ free (least_taken (length names) 1 n first more))

-- and one new name
pub new_name_same : (base : Bytes → Bytes) (xs ys vs ws : List Bytes) (name : Bytes) → SameNames xs ys → SameNames vs ws → new_name base vs xs name ≡ new_name base ws ys name
new_name_same base xs ys vs ws name given everywhere =
    ap₂ (λ b n. cond b n name) (given name) (fresh_same (xs ++ vs) (ys ++ ws) (base name) (joined_same xs ys vs ws given everywhere))
