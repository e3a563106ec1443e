-- Bytes of a string that are read one after another.
use Rattle.std.proofs.Common.{◌≡◌, ℕ, zero, suc, ◌+◌, ◌-◌, ◌<◌, List, [], ◌∷◌, ◌++◌, Bool, true, false, Result, Ok, Err, refl, sym, ap, ◌∙◌, append-nil, append_assoc, arith}
use Rattle.ir_tables.specs.declared.undefined_kind.UndefinedKind.{UndefinedKind}
use Rattle.ir_tables.specs.declared.undefined_kind.UndefinedKind.TheVariants.{OutsideBlock, PoisonArgument}
use Rattle.ir_eval.specs.declared.value.Pointer.{Pointer}
use Rattle.ir_eval.specs.declared.value.Scalar.{Scalar}
use Rattle.ir_eval.specs.declared.value.Scalar.TheVariants as scalar
use Rattle.ir_memory.specs.declared.leaf.Leaf.TheVariants as leaf
use Rattle.ir_memory.specs.Memory.{Blocks, loaded}
use Rattle.run_rules.specs.Access.{and_then, in_front, behind, string_from, string_within}
use Rattle.run_rules.specs.Printing.{string_up_to}
use Rattle.run_names.specs.Values.Strings.{StringTold, byte_of, byte_in, string_then, with_bytes, string_ended}

-- what is behind a byte that is known
from_byte : (r : Result Scalar UndefinedKind) (n : ℕ) (others : StringTold) → and_then r byte_of ≡ Ok (suc n) → and_then r (λ byte. string_from byte others) ≡ in_front (Ok (suc n)) others
from_byte (Ok (scalar.Int zero)) n others h = cc
from_byte (Ok (scalar.Int (suc k))) n others h = cc
from_byte (Ok (scalar.Ptr p)) n others h = cc
from_byte (Ok scalar.Poison) n others h = cc
from_byte (Err e) n others h = cc

from_zero : (r : Result Scalar UndefinedKind) (others : StringTold) → and_then r byte_of ≡ Ok 0 → and_then r (λ byte. string_from byte others) ≡ Ok []
from_zero (Ok (scalar.Int zero)) others h = refl
from_zero (Ok (scalar.Int (suc k))) others h = cc
from_zero (Ok (scalar.Ptr p)) others h = cc
from_zero (Ok scalar.Poison) others h = cc
from_zero (Err e) others h = cc

told : Result ℕ UndefinedKind → UndefinedKind
told (Ok n) = PoisonArgument
told (Err e) = e

from_none : (r : Result Scalar UndefinedKind) (kind : UndefinedKind) (others : StringTold) → and_then r byte_of ≡ Err kind → and_then r (λ byte. string_from byte others) ≡ Err kind
unfolding told
from_none (Ok (scalar.Int n)) kind others h = cc
from_none (Ok (scalar.Ptr p)) kind others h = ap (λ r. Err (told r)) h
from_none (Ok scalar.Poison) kind others h = ap (λ r. Err (told r)) h
from_none (Err e) kind others h = ap (λ r. Err (told r)) h

nothing_before : (r : StringTold) → r ≡ with_bytes [] r
nothing_before (Ok more) = refl
nothing_before (Err kind) = refl

one_before : (front : List ℕ) (b : ℕ) (r : StringTold) → with_bytes front (in_front (Ok b) r) ≡ with_bytes (front ++ b ∷ []) r
one_before front b (Ok more) = ap Ok (sym (append_assoc front (b ∷ []) more))
one_before front b (Err kind) = refl

-- the first bytes were added, and the next is the one at the pointer
pub record IsPartRead (m : Blocks) (p : Pointer) (most k : ℕ) (here : Pointer) (old new : List ℕ) : Type 0 where
  pub front : List ℕ
  pub items : new ≡ old ++ front
  pub rest : (rest : StringTold) → string_then rest m most p ≡ with_bytes front (string_then rest m (most - k) here)
  pub block : here.block ≡ p.block

module _ (m : Blocks) (p : Pointer) (most : ℕ) where
  pub none_read : (old : List ℕ) → IsPartRead m p most 0 p old old
  none_read old =
      let all : most ≡ most - 0 = omega arith in
      record { front = []; items = sym (append-nil old); rest = λ rest. nothing_before (string_then rest m most p) ∙ ap (λ n. with_bytes [] (string_then rest m n p)) all; block = refl }

  opened : (k : ℕ) (here : Pointer) (rest : StringTold) → k < most
      → string_then rest m (most - k) here ≡ and_then (loaded m (scalar.Ptr here) (leaf.Int 8) 1) (λ byte. string_from byte (string_then rest m (most - (k + 1)) (behind here 1)))
  unfolding string_then
  opened k here rest less =
      let more : most - k ≡ suc (most - (k + 1)) = omega (arith, less) in ap (λ n. string_then rest m n here) more

  other_read : (k : ℕ) (here : Pointer) (old new : List ℕ) (b : ℕ) → IsPartRead m p most k here old new → k < most → byte_in m here ≡ Ok (suc b)
      → IsPartRead m p most (k + 1) (behind here 1) old (new ++ suc b ∷ [])
  other_read k here old new b h less is = record {
    front = h.front ++ suc b ∷ [];
    items = ap (λ l. l ++ suc b ∷ []) h.items ∙ append_assoc old h.front (suc b ∷ []);
    rest = λ rest.
        h.rest rest ∙ ap (with_bytes h.front) (opened k here rest less ∙ from_byte (loaded m (scalar.Ptr here) (leaf.Int 8) 1) b (string_then rest m (most - (k + 1)) (behind here 1)) is)
        ∙ one_before h.front (suc b) (string_then rest m (most - (k + 1)) (behind here 1));
    block = h.block;
  }

  -- a byte that is not zero is added
  pub one_read : (k : ℕ) (here : Pointer) (old new : List ℕ) (b : ℕ) → IsPartRead m p most k here old new → k < most → byte_in m here ≡ Ok b → (b ≡ 0 → ⊥)
      → IsPartRead m p most (k + 1) (behind here 1) old (new ++ b ∷ [])
  one_read k here old new zero h less is other = absurd (other refl)
  one_read k here old new (suc b) h less is other = other_read k here old new b h less is

  -- a zero ends the string
  pub zero_read : (k : ℕ) (here : Pointer) (old new : List ℕ) → (h : IsPartRead m p most k here old new) → k < most → byte_in m here ≡ Ok 0
      → (rest : StringTold) → string_then rest m most p ≡ string_ended h.front true rest
  zero_read k here old new h less is rest =
      h.rest rest ∙ ap (with_bytes h.front) (opened k here rest less ∙ from_zero (loaded m (scalar.Ptr here) (leaf.Int 8) 1) (string_then rest m (most - (k + 1)) (behind here 1)) is)
      ∙ ap Ok (append-nil h.front)

  pub no_byte : (k : ℕ) (here : Pointer) (old new : List ℕ) (kind : UndefinedKind) → IsPartRead m p most k here old new → k < most → byte_in m here ≡ Err kind
      → (rest : StringTold) → string_then rest m most p ≡ Err kind
  no_byte k here old new kind h less is rest =
      h.rest rest ∙ ap (with_bytes h.front) (opened k here rest less ∙ from_none (loaded m (scalar.Ptr here) (leaf.Int 8) 1) kind (string_then rest m (most - (k + 1)) (behind here 1)) is)

  -- no byte is left to be read
  pub all_read : (k : ℕ) (here : Pointer) (old new : List ℕ) → (h : IsPartRead m p most k here old new) → k ≡ most
      → (rest : StringTold) → string_then rest m most p ≡ string_ended h.front false rest
  unfolding string_then
  all_read k here old new h end rest =
      let none : most - k ≡ 0 = omega (arith, end) in h.rest rest ∙ ap (λ n. with_bytes h.front (string_then rest m n here)) none

-- both kinds of strings are such

pub within_is : (m : Blocks) (room : ℕ) (p : Pointer) → string_within m room p ≡ string_then (Err OutsideBlock) m room p
unfolding string_within string_then
within_is m zero p = refl
within_is m (suc room) p = ap (λ r. and_then (loaded m (scalar.Ptr p) (leaf.Int 8) 1) (λ byte. string_from byte r)) (within_is m room (behind p 1))

pub up_to_is : (m : Blocks) (most : ℕ) (p : Pointer) → string_up_to m most p ≡ string_then (Ok []) m most p
unfolding string_up_to string_then
up_to_is m zero p = refl
up_to_is m (suc most) p = ap (λ r. and_then (loaded m (scalar.Ptr p) (leaf.Int 8) 1) (λ byte. string_from byte r)) (up_to_is m most (behind p 1))

-- so many bytes, or a zero among them, are what `s` with that precision writes
pub ended_is : (bytes : List ℕ) (ended : Bool) → string_ended bytes ended (Ok []) ≡ Ok bytes
ended_is bytes true = refl
ended_is bytes false = ap Ok (append-nil bytes)
