-- Live blocks stay placed, and live bytes are counted, when blocks are added, changed and ended.
use Rattle.std.proofs.Common.{◌≡◌, ℕ, zero, suc, ◌+◌, ◌<◌, ◌≤◌, List, [], ◌∷◌, ◌++◌, length, set, get_or, cond, subst, refl, sym, ap, ◌∙◌, arith, Bool, true, false}
use Rattle.ir_memory.specs.MemoryBlock.{MemoryBlock, gone, written}
use Rattle.ir_memory.specs.declared.cell.Cell.{Cell}
use Rattle.ir_memory.specs.Memory.{live_bytes, changed}
use Rattle.ir_memory.specs.Kept.{IsPlaced, behind}

-- where the next live block may start, by cases
not_below : (t : Bool) (from start size : ℕ) → (t ≡ true → from ≤ start) → from ≤ cond t (start + size + 16) from
not_below true from start size p = let h = p refl in omega (arith, h)
not_below false from start size p = omega arith

no_more : (t : Bool) (a b n : ℕ) → a ≤ n → b ≤ n → cond t a b ≤ n
no_more true a b n h k = h
no_more false a b n h k = k

same_or_more : (t : Bool) (a b c : ℕ) → b ≤ c → cond t a b ≤ cond t a c
same_or_more true a b c h = omega arith
same_or_more false a b c h = h

pub from-behind : (b : MemoryBlock) (from : ℕ) → (b.live ≡ true → from ≤ b.start) → from ≤ behind from b
from-behind b from p = not_below b.live from b.start b.size p

pub behind-live : (b : MemoryBlock) (from : ℕ) → b.live ≡ true → behind from b ≡ b.start + b.size + 16
behind-live b from live = ap (λ t. cond t (b.start + b.size + 16) from) live

-- no block is placed behind the next address
pub IsPlaced-least : (bs : List MemoryBlock) (from next : ℕ) → IsPlaced from bs next → from ≤ next
IsPlaced-least [] from next p = p
IsPlaced-least (b ∷ bs) from next p =
    let r = IsPlaced-least bs (behind from b) next p.1 in
    let s = from-behind b from p.0 in omega (arith, r, s)

-- from an earlier address on they are placed too
pub IsPlaced-earlier : (bs : List MemoryBlock) (from before next : ℕ) → before ≤ from → IsPlaced from bs next → IsPlaced before bs next
IsPlaced-earlier [] from before next h p = omega (arith, h, p)
IsPlaced-earlier (b ∷ bs) from before next h p = (
  λ live. let r = p.0 live in omega (arith, h, r),
  IsPlaced-earlier bs (behind from b) (behind before b) next (same_or_more b.live (b.start + b.size + 16) before from h) p.1,
)

pub IsPlaced-push : (bs : List MemoryBlock) (b : MemoryBlock) (from next : ℕ) → IsPlaced from bs next → next ≤ b.start → IsPlaced from (bs ++ b ∷ []) (b.start + b.size + 16)
IsPlaced-push [] b from next p h = (λ live. omega (arith, p, h), no_more b.live _ from _ (omega arith) (omega (arith, p, h)))
IsPlaced-push (c ∷ bs) b from next p h = (p.0, IsPlaced-push bs b (behind from c) next p.1 h)

pub live_bytes-push : (bs : List MemoryBlock) (b : MemoryBlock) → live_bytes (bs ++ b ∷ []) ≡ live_bytes bs + cond b.live b.size 0
live_bytes-push [] b = omega arith
live_bytes-push (c ∷ bs) b = omega (arith, live_bytes-push bs b)

-- a live block within is placed
pub IsPlaced-at : (bs : List MemoryBlock) (from next : ℕ) (d : MemoryBlock) (j : ℕ) → IsPlaced from bs next → j < length bs → (get_or bs j d).live ≡ true → (from ≤ (get_or bs j d).start) × ((get_or bs j d).start + (get_or bs j d).size + 16 ≤ next)
IsPlaced-at [] from next d j p h live = absurd (omega arith)
IsPlaced-at (b ∷ bs) from next d zero p h live =
    (p.0 live, subst (λ n. n ≤ next) (behind-live b from live) (IsPlaced-least bs (behind from b) next p.1))
IsPlaced-at (b ∷ bs) from next d (suc j) p h live =
    let r = IsPlaced-at bs (behind from b) next d j p.1 (omega arith) live in
    let s = from-behind b from p.0 in (omega (arith, r, s), r.1)

-- an earlier live block ends before a later one starts
pub IsPlaced-apart : (bs : List MemoryBlock) (from next : ℕ) (d : MemoryBlock) (i j : ℕ) → IsPlaced from bs next → i < j → j < length bs → (get_or bs i d).live ≡ true → (get_or bs j d).live ≡ true → (get_or bs i d).start + (get_or bs i d).size + 16 ≤ (get_or bs j d).start
IsPlaced-apart [] from next d i j p h k l m = absurd (omega arith)
IsPlaced-apart (b ∷ bs) from next d i zero p h k l m = absurd (omega arith)
IsPlaced-apart (b ∷ bs) from next d zero (suc j) p h k l m =
    let r = (IsPlaced-at bs (behind from b) next d j p.1 (omega arith) m).0 in
    subst (λ n. n ≤ (get_or bs j d).start) (behind-live b from l) r
IsPlaced-apart (b ∷ bs) from next d (suc i) (suc j) p h k l m = IsPlaced-apart bs (behind from b) next d i j p.1 (omega arith) (omega arith) l m

pub live_bytes-set : (bs : List MemoryBlock) (d b : MemoryBlock) (i : ℕ) → i < length bs → live_bytes (set bs i b) + cond (get_or bs i d).live (get_or bs i d).size 0 ≡ live_bytes bs + cond b.live b.size 0
live_bytes-set [] d b i h = absurd (omega arith)
live_bytes-set (c ∷ bs) d b zero h = omega arith
live_bytes-set (c ∷ bs) d b (suc i) h = omega (arith, live_bytes-set bs d b i (omega arith))

pub changed-set : (f : MemoryBlock → MemoryBlock) (bs : List MemoryBlock) (d b : MemoryBlock) (i : ℕ) → i < length bs → b ≡ f (get_or bs i d) → set bs i b ≡ changed i f bs
changed-set f [] d b i h e = absurd (omega arith)
changed-set f (c ∷ bs) d b zero h e = ap (λ x. x ∷ bs) e
changed-set f (c ∷ bs) d b (suc i) h e = ap (λ xs. c ∷ xs) (changed-set f bs d b i (omega arith) e)

-- a block ends
pub IsPlaced-ended : (i : ℕ) (bs : List MemoryBlock) (from next : ℕ) → IsPlaced from bs next → IsPlaced from (changed i (λ b. gone) bs) next
IsPlaced-ended i [] from next p = p
IsPlaced-ended zero (b ∷ bs) from next p = (λ live. absurd (never live), IsPlaced-earlier bs (behind from b) from next (from-behind b from p.0) p.1)
  where
    never : false ≡ true → ⊥
    never e = cc
IsPlaced-ended (suc i) (b ∷ bs) from next p = (p.0, IsPlaced-ended i bs (behind from b) next p.1)

-- a live block ends
module _ (bs : List MemoryBlock) (i : ℕ) (b : MemoryBlock) (within : i < length bs) (is : b ≡ get_or bs i b) where
  pub live_bytes-ended : (get_or bs i b).live ≡ true → live_bytes (set bs i gone) + b.size ≡ live_bytes bs
  live_bytes-ended live =
      let e = live_bytes-set bs b gone i within in
      let f : cond (get_or bs i b).live (get_or bs i b).size 0 ≡ b.size = ap (λ l. cond l (get_or bs i b).size 0) live ∙ ap (λ x. x.size) (sym is) in
      omega (arith, e, f)

  pub changed-ended : set bs i gone ≡ changed i (λ b. gone) bs
  changed-ended = changed-set (λ b. gone) bs b gone i within refl

-- a write keeps the place and the size of each block
pub IsPlaced-written : (i at : ℕ) (new : List Cell) (bs : List MemoryBlock) (from next : ℕ) → IsPlaced from bs next → IsPlaced from (changed i (written at new) bs) next
IsPlaced-written i at new [] from next p = p
IsPlaced-written zero at new (b ∷ bs) from next p = p
IsPlaced-written (suc i) at new (b ∷ bs) from next p = (p.0, IsPlaced-written i at new bs (behind from b) next p.1)

pub live_bytes-written : (i at : ℕ) (new : List Cell) (bs : List MemoryBlock) → live_bytes (changed i (written at new) bs) ≡ live_bytes bs
live_bytes-written i at new [] = refl
live_bytes-written zero at new (b ∷ bs) = refl
live_bytes-written (suc i) at new (b ∷ bs) = ap (λ n. cond b.live b.size 0 + n) (live_bytes-written i at new bs)
