-- How the answers on instructions, ends and blocks are put together, in their order.
use Rattle.std.proofs.Common.{◌≡◌, ℕ, ◌+◌, ◌≤◌, Bool, ◌&&◌, List, ◌++◌, length, drop, take, slice_get, Some, Result, Ok, Err, refl, sym, ap, ◌∙◌, subst, arith}
use Rattle.std.specs.List.{list_all}
use Rattle.std.proofs.lemmas.List.{drop_all}
use Rattle.std.proofs.lemmas.List.Folds.{list_all_more}
use Rattle.std.proofs.lemmas.Option.{get_or_from_slice_get, slice_get_within}
use Rattle.module_arena.specs.Module.{Block, Function, Instruction, Module}
use Rattle.module_arena.specs.Valid.{AllHold, Demand, blocks_demands, ending_demands, instruction_demands, instructions_demands}
use Rattle.entry_verify.specs.declared.types.fault.VerifyFault.{VerifyFault}
use Rattle.entry_verify.specs.Types.Judged.{Judged}
use Rattle.entry_verify.proofs.OnTypes.Judging.{fails_first, leads_past, Leads}
use Rattle.path_verify.proofs.Counted.{drop_at}

-- ---- lists of demands, one behind the other

pub second_fails : (ds es fs : List Demand) (e : VerifyFault) → AllHold ds → Judged {T = Unit {0}} es (Err e) → Judged {T = Unit {0}} (ds ++ (es ++ fs)) (Err e)
second_fails ds es fs e d j = leads_past ds (es ++ fs) d (Err e) (fails_first es fs e j)

pub third_fails : (ds es fs gs : List Demand) (e : VerifyFault) → AllHold ds → AllHold es → Judged {T = Unit {0}} fs (Err e) → Judged {T = Unit {0}} (ds ++ (es ++ (fs ++ gs))) (Err e)
third_fails ds es fs gs e d h j = leads_past ds (es ++ (fs ++ gs)) d (Err e) (second_fails es fs gs e h j)

pub third_leads : (ds es fs : List Demand) (r : Result (Unit {0}) VerifyFault) → AllHold ds → AllHold es → Judged fs r → Judged (ds ++ (es ++ fs)) r
third_leads ds es fs r d h j = leads_past ds (es ++ fs) d r (leads_past es fs h r j)

pub fourth_leads : (ds es fs gs : List Demand) (r : Result (Unit {0}) VerifyFault) → AllHold ds → AllHold es → AllHold fs → Judged gs r → Judged (ds ++ (es ++ (fs ++ gs))) r
fourth_leads ds es fs gs r d h k j = leads_past ds (es ++ (fs ++ gs)) d r (third_leads es fs gs r h k j)

-- ---- from one place of a list on

-- a test of one item more
pub all_then : {A : Type 0} (p : A → Bool) (xs : List A) (i : ℕ) (x : A) → slice_get xs i ≡ Some x → (list_all p (take i xs) && p x) ≡ list_all p (take (i + 1) xs)
all_then p xs i x at = ap (λ y. list_all p (take i xs) && p y) (sym (get_or_from_slice_get xs i x x at)) ∙ sym (list_all_more p xs i x (slice_get_within xs i x at))

-- the first of what is left holds: what is left then
holds_then : (left here behind all : List Demand) → left ≡ here ++ behind → AllHold here → Leads left all → Leads behind all
holds_then left here behind all is h l r j = l r (subst (λ (ds : List Demand). Judged ds r) (sym is) (leads_past here behind h r j))

-- the first of what is left fails
fails_then : (left here behind all : List Demand) (e : VerifyFault) → left ≡ here ++ behind → Judged {T = Unit {0}} here (Err e) → Leads left all → Judged {T = Unit {0}} all (Err e)
fails_then left here behind all e is j l = l (Err e) (subst (λ (ds : List Demand). Judged {T = Unit {0}} ds (Err e)) (sym is) (fails_first here behind e j))

-- ---- the instructions of a block

module _ (m : Module) (f : Function) (block : Block) (first : ℕ) (is : List Instruction) where
  -- what is asked from instruction k on
  abbrev pub asked_from : ℕ → List Demand
  asked_from k = instructions_demands m f block k (first + k) (drop k is)

  asked_at : (k : ℕ) (i : Instruction) → slice_get is k ≡ Some i → asked_from k ≡ instruction_demands m f block k (first + k) i ++ asked_from (k + 1)
  asked_at k i at =
      let next : (first + k) + 1 ≡ first + (k + 1) = omega arith in
      ap (instructions_demands m f block k (first + k)) (drop_at is k i at)
      ∙ ap (λ (n : ℕ). instruction_demands m f block k (first + k) i ++ instructions_demands m f block (k + 1) n (drop (k + 1) is)) next

  pub instructions_begin : Leads (asked_from 0) (instructions_demands m f block 0 first is)
  instructions_begin r j =
      let same : first + 0 ≡ first = omega arith in
      subst (λ (n : ℕ). Judged (instructions_demands m f block 0 n is) r) same j

  pub instruction_holds : (k : ℕ) (i : Instruction) (all : List Demand) → slice_get is k ≡ Some i → AllHold (instruction_demands m f block k (first + k) i)
      → Leads (asked_from k) all → Leads (asked_from (k + 1)) all
  instruction_holds k i all at h l = holds_then (asked_from k) (instruction_demands m f block k (first + k) i) (asked_from (k + 1)) all (asked_at k i at) h l

  pub instruction_fails : (k : ℕ) (i : Instruction) (all : List Demand) (e : VerifyFault) → slice_get is k ≡ Some i → Judged {T = Unit {0}} (instruction_demands m f block k (first + k) i) (Err e)
      → Leads (asked_from k) all → Judged {T = Unit {0}} all (Err e)
  instruction_fails k i all e at j l = fails_then (asked_from k) (instruction_demands m f block k (first + k) i) (asked_from (k + 1)) all e (asked_at k i at) j l

  -- behind the last stands the end
  pub end_judged : (k count : ℕ) (all : List Demand) (r : Result (Unit {0}) VerifyFault) → length is ≡ count → count ≤ k → k ≤ count → Leads (asked_from k) all
      → Judged (ending_demands m f block (first + count)) r → Judged all r
  end_judged k count all r many le ge l j =
      let same : k ≡ count = omega (arith, le, ge) in
      l r (subst (λ (ds : List Demand). Judged ds r) (sym (ap (instructions_demands m f block k (first + k)) (drop_all k is (omega (arith, many, le))) ∙ ap (λ (n : ℕ). ending_demands m f block (first + n)) same)) j)

-- ---- the blocks of a function

module _ (m : Module) (f : Function) (bs : List Block) where
  blocks_at : (k n next : ℕ) (b : Block) → slice_get bs k ≡ Some b → next ≡ n + length b.instructions + 1
      → blocks_demands m f n (drop k bs) ≡ instructions_demands m f b 0 n b.instructions ++ blocks_demands m f next (drop (k + 1) bs)
  blocks_at k n next b at is =
      ap (blocks_demands m f n) (drop_at bs k b at)
      ∙ ap (λ (x : ℕ). instructions_demands m f b 0 n b.instructions ++ blocks_demands m f x (drop (k + 1) bs)) (sym is)

  pub block_holds : (k n next : ℕ) (b : Block) (all : List Demand) → slice_get bs k ≡ Some b → next ≡ n + length b.instructions + 1 → AllHold (instructions_demands m f b 0 n b.instructions)
      → Leads (blocks_demands m f n (drop k bs)) all → Leads (blocks_demands m f next (drop (k + 1) bs)) all
  block_holds k n next b all at is h l =
      holds_then (blocks_demands m f n (drop k bs)) (instructions_demands m f b 0 n b.instructions) (blocks_demands m f next (drop (k + 1) bs)) all (blocks_at k n next b at is) h l

  pub block_fails : (k n : ℕ) (b : Block) (all : List Demand) (e : VerifyFault) → slice_get bs k ≡ Some b → Judged {T = Unit {0}} (instructions_demands m f b 0 n b.instructions) (Err e)
      → Leads (blocks_demands m f n (drop k bs)) all → Judged {T = Unit {0}} all (Err e)
  block_fails k n b all e at j l =
      let next = n + length b.instructions + 1 in
      fails_then (blocks_demands m f n (drop k bs)) (instructions_demands m f b 0 n b.instructions) (blocks_demands m f next (drop (k + 1) bs)) all e (blocks_at k n next b at refl) j l

  pub blocks_end : (k n : ℕ) (all : List Demand) → length bs ≤ k → Leads (blocks_demands m f n (drop k bs)) all → Judged {T = Unit {0}} all (Ok tt)
  blocks_end k n all le l = l (Ok tt) (subst (λ (xs : List Block). Judged {T = Unit {0}} (blocks_demands m f n xs) (Ok tt)) (sym (drop_all k bs le)) tt)
