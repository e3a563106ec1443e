-- A search for a block finds the one that can have an address.
use Rattle.std.proofs.Common.{◌≡◌, ℕ, zero, suc, ◌+◌, ◌-◌, ◌<◌, ◌≤◌, List, [], ◌∷◌, length, get_or, cond, subst, refl, sym, ap, ◌∙◌, arith, rules, Bool, true, false, Option, Some, None, ◌&&◌, Result, Ok, Err, is_some}
use Rattle.std.specs.Prelude.{position, slice_get, nat_eq, is_none, not, ◌%◌, if◌then◌else◌}
use Rattle.std.proofs.lemmas.List.Sums.{position_or_len_is}
use Rattle.std.proofs.lemmas.Grind.{common_steps}
use Rattle.std.proofs.lemmas.Bool.Decides.{nat_tests}
use Rattle.std.proofs.Math.Dec.{eqb-suc-zero}
use Rattle.ir_memory.specs.declared.kind.BlockKind.{BlockKind}
use Rattle.ir_tables.specs.declared.undefined_kind.UndefinedKind.{UndefinedKind}
use Rattle.ir_tables.specs.declared.undefined_kind.UndefinedKind.TheVariants.{OutsideBlock, EndedBlock, WriteToConstant, Misaligned}
use Rattle.ir_memory.specs.declared.access.BlockPlace.{BlockPlace}
use Rattle.ir_eval.specs.declared.value.Pointer.{Pointer}
use Rattle.ir_eval.specs.declared.value.Scalar.TheVariants.{Ptr}
use Rattle.ir_memory.specs.MemoryBlock.{MemoryBlock, starts, gone, holds, is_constant}
use Rattle.ir_memory.specs.Memory.{Blocks, block_found, number_where, started, bounds_at, bounds_of, home, has_ended, is_over, has_constant, is_fixed, place_at, place_in, access}
use Rattle.ir_memory.specs.Find.{HasOnly, IsOnly}

-- a block that passes the test lives, and has the address in it or at its end
abbrev pub Touches : (MemoryBlock → Bool) → ℕ → Type 0
Touches test address = (b : MemoryBlock) → test b ≡ true → (b.live ≡ true) × (b.start ≤ address) × (address ≤ b.start + b.size)

pub false_or_true : (b : Bool) → (P : Type 0) → (b ≡ true → P) → (b ≡ false → P) → P
false_or_true true P f g = f refl
false_or_true false P f g = g refl

some_is : {i j : ℕ} → Some i ≡ Some j → i ≡ j
some_is e = cc

pub is_some_count : (count : ℕ) → 1 ≤ count → nat_eq count 0 ≡ false
is_some_count zero some = absurd (omega (arith, some))
is_some_count (suc count) some = eqb-suc-zero count

position-none : (p : MemoryBlock → Bool) (xs : List MemoryBlock) (d : MemoryBlock) → ((k : ℕ) → k < length xs → p (get_or xs k d) ≡ false) → position p xs ≡ None
position-none p xs d none =
    let e = position_or_len_is p xs (length xs) d (omega arith) none (λ h. absurd (omega arith)) in
    rw e (search (rules, common_steps))

position-at : (p : MemoryBlock → Bool) (xs : List MemoryBlock) (d : MemoryBlock) (i : ℕ) → i < length xs → p (get_or xs i d) ≡ true → ((k : ℕ) → k < i → p (get_or xs k d) ≡ false) → position p xs ≡ Some i
position-at p xs d i h here none =
    let e = position_or_len_is p xs i d (omega arith) none (λ _. here) in
    rw e (grind (arith, common_steps))

slice_get-at : (xs : List MemoryBlock) (i : ℕ) (d : MemoryBlock) → i < length xs → slice_get xs i ≡ Some (get_or xs i d)
slice_get-at [] i d h = absurd (omega arith)
slice_get-at (x ∷ xs) zero d h = refl
slice_get-at (x ∷ xs) (suc i) d h = slice_get-at xs i d (omega arith)

module _ (blocks : List MemoryBlock) (test : MemoryBlock → Bool) (address : ℕ) (touches : Touches test address) (d : MemoryBlock) where
  fails : (place : Option ℕ) → HasOnly blocks address place → (k : ℕ) → k < length blocks → (place ≡ Some k → ⊥) → test (get_or blocks k d) ≡ false
  fails place only k h ne =
      false_or_true (test (get_or blocks k d)) _ (λ e. let t = touches _ e in absurd (ne (only k d h t.0 t.1 t.2))) (λ e. e)

  pub found-at : (want : Option ℕ) (i : ℕ) → IsOnly blocks want address (Some i) → i < length blocks → block_found blocks test want ≡ cond (test (get_or blocks i d)) (Some i) None
  found-at (Some j) i only h =
      let e : i ≡ j = some_is only in
      subst (λ n. number_where n test (slice_get blocks n) ≡ cond (test (get_or blocks i d)) (Some i) None) e (rw (slice_get-at blocks i d h) refl)
  found-at None i only h =
      false_or_true (test (get_or blocks i d)) _
      (λ e. rw e (position-at test blocks d i h e (λ k lt. fails (Some i) only k (omega arith) (λ s. let t : i ≡ k = some_is s in absurd (omega arith)))))
      (λ e. rw e (position-none test blocks d (λ k lt.
      false_or_true (test (get_or blocks k d)) _ (λ f. let t = touches _ f in let s : i ≡ k = some_is (only k d lt t.0 t.1 t.2) in subst (λ n. test (get_or blocks n d) ≡ false) s e) (λ f. f))))

  pub found-none : (want : Option ℕ) → IsOnly blocks want address None → block_found blocks test want ≡ None
  found-none (Some j) only = cc
  found-none None only = position-none test blocks d (λ k lt. fails None only k lt (λ s. cc))

starts_touches : (address : ℕ) (kind : BlockKind) → Touches (λ b. starts b address kind) address
starts_touches address kind b e = grind (arith, nat_tests)

pub started-at : (blocks : List MemoryBlock) (p : Pointer) (kind : BlockKind) (i : ℕ) (b : MemoryBlock) (t : Bool) → IsOnly blocks p.block p.address (Some i) → i < length blocks → b ≡ get_or blocks i b → t ≡ starts b p.address kind → started blocks (Ptr p) kind ≡ cond t (Some i) None
started-at blocks p kind i b t only h e f =
    found-at blocks (λ b. starts b p.address kind) p.address (starts_touches p.address kind) b p.block i only h
    ∙ ap (λ x. cond x (Some i) None) (ap (λ x. starts x p.address kind) (sym e) ∙ sym f)

pub started-none : (blocks : List MemoryBlock) (p : Pointer) (kind : BlockKind) → IsOnly blocks p.block p.address None → started blocks (Ptr p) kind ≡ None
started-none blocks p kind only = found-none blocks (λ b. starts b p.address kind) p.address (starts_touches p.address kind) gone p.block only

pub bounds-at : (blocks : List MemoryBlock) (i : ℕ) (b : MemoryBlock) (t : Bool) → i < length blocks → b ≡ get_or blocks i b → t ≡ b.live → bounds_at blocks (Some i) ≡ cond t (Some (b.start, b.start + b.size)) None
bounds-at blocks i b t h e f = rw (slice_get-at blocks i b h) (subst (λ x. bounds_of (Some x) ≡ cond t (Some (b.start, b.start + b.size)) None) e (ap (λ x. cond x (Some (b.start, b.start + b.size)) None) (sym f)))

holds_touches : (address count : ℕ) → Touches (λ b. b.live && holds b address count) address
holds_touches address count b e = grind (arith, nat_tests)

pub home-none : (blocks : List MemoryBlock) (p : Pointer) (count : ℕ) → IsOnly blocks p.block p.address None → home blocks p count ≡ None
home-none blocks p count only =
    found-none blocks (λ b. b.live && holds b p.address count) p.address (holds_touches p.address count) gone p.block only

-- the pointer can speak of no block
pub access-none : (m : Blocks) (count align : ℕ) (writes : Bool) (p : Pointer) → 1 ≤ count → IsOnly m.list p.block p.address None → access m count align writes (Ptr p) ≡ Err OutsideBlock
access-none m count align writes p some only = outside p.block only refl
  where
    outside : (want : Option ℕ) → IsOnly m.list want p.address None → p.block ≡ want → access m count align writes (Ptr p) ≡ Err OutsideBlock
    outside (Some i) absent is = cc
    outside None absent is = rw (is_some_count count some, home-none m.list p count only, is) refl

-- what the checks give at the block that the pointer can speak of
abbrev pub judged : Bool → Bool → Bool → Bool → BlockPlace → Result (Option BlockPlace) UndefinedKind
judged over outside fixed aligned place =
    if over then Err EndedBlock
    else (if outside then Err OutsideBlock
    else (if fixed then Err WriteToConstant
    else (if not aligned then Err Misaligned else Ok (Some place))))

abbrev pick : Bool → ℕ → Option ℕ
pick t i = if t then Some i else None

judged_home : (blocks : List MemoryBlock) (i address : ℕ) (b : MemoryBlock) (over writes sealed aligned t : Bool) → slice_get blocks i ≡ Some b →
    (if over then Err EndedBlock
    else (if is_none (pick t i) then Err OutsideBlock
    else (if writes && sealed && has_constant blocks (pick t i) then Err WriteToConstant
    else (if not aligned then Err Misaligned
    else Ok (place_at blocks address (pick t i))))))
    ≡ judged over (not t) (writes && sealed && is_constant b.kind) aligned (record { index = i; offset = address - b.start })
judged_home blocks i address b over writes sealed aligned false e = refl
judged_home blocks i address b over writes sealed aligned true e =
    ap (λ o. if over then Err EndedBlock else (if writes && sealed && is_fixed o then Err WriteToConstant else (if not aligned then Err Misaligned else Ok (place_in i address o)))) e

has_ended-at : (blocks : List MemoryBlock) (want : Option ℕ) (address i : ℕ) (b : MemoryBlock) → IsOnly blocks want address (Some i) → slice_get blocks i ≡ Some b → has_ended blocks want ≡ (not b.live && is_some want)
has_ended-at blocks None address i b only e = both b.live
  where
    both : (t : Bool) → false ≡ (not t && false)
    both true = refl
    both false = refl
has_ended-at blocks (Some j) address i b only e =
    let s : i ≡ j = some_is only in
    subst (λ n. is_over (slice_get blocks n) ≡ (not b.live && true)) s (ap is_over e ∙ both b.live)
  where
    both : (t : Bool) → not t ≡ (not t && true)
    both true = refl
    both false = refl

pub access-at : (m : Blocks) (count align : ℕ) (writes : Bool) (p : Pointer) (i : ℕ) (b : MemoryBlock) → 1 ≤ count → IsOnly m.list p.block p.address (Some i) → i < length m.list → b ≡ get_or m.list i b → access m count align writes (Ptr p) ≡ judged (not b.live && is_some p.block) (not (b.live && holds b p.address count)) (writes && m.sealed && is_constant b.kind) (nat_eq (p.address % align) 0) (record { index = i; offset = p.address - b.start })
access-at m count align writes p i b some only within is =
    let here : slice_get m.list i ≡ Some b = slice_get-at m.list i b within ∙ ap Some (sym is) in
    let at : home m.list p count ≡ pick (b.live && holds b p.address count) i =
    found-at m.list (λ x. x.live && holds x p.address count) p.address (holds_touches p.address count) b p.block i only within ∙ ap (λ x. pick (x.live && holds x p.address count) i) (sym is) in
    rw (is_some_count count some, has_ended-at m.list p.block p.address i b only here, at)
    (judged_home m.list i p.address b (not b.live && is_some p.block) writes m.sealed (nat_eq (p.address % align) 0) (b.live && holds b p.address count) here)
