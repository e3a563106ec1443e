-- What reading gives: one value, and no more tokens than there were.
use Rattle.std.proofs.Common.{◌≡◌, ℕ, ◌≤◌, ◌<◌, List, [], ◌∷◌, length, false, sym, ap, subst, ◌∙◌, arith, length-append}
use Rattle.ir_terminals.specs.PhraseRows.Row.{Reading, Done, Bad, PhraseShape, Row}
use Rattle.ir_terminals.specs.PhraseRows.Reads.{Takes, Reads}
use Rattle.ir_terminals.proofs.OnPhraseRows.ListParts.{takes_left}

done_value : {T A : Type 0} (a b : A) (ts : List T) → Done a ts ≡ Done b ts → a ≡ b
done_value a b ts e = cc

-- a whole phrase has one value
pub one_value : {T A : Type 0} {class : T → ℕ} {r : Row T A} {s : PhraseShape} → Reads class r s → (us : List T) (a b : A) → r.whole us a → r.whole us b → a ≡ b
one_value h us a b w v = done_value a b [] (sym (h.complete us [] a w tt) ∙ h.complete us [] b v tt)

-- the parts of what was read
pub takes_at : {T A : Type 0} {class : T → ℕ} {r : Row T A} {s : PhraseShape} → Reads class r s → (ts : List T) (x : Reading T A) → r.run ts ≡ x → Takes r ts x
takes_at {T} {A} {class} {r} {s} h ts x e = subst (λ (y : Reading T A). Takes r ts y) e (h.takes ts)

-- what reading leaves is no more than there was
pub read_no_more : {T A : Type 0} {class : T → ℕ} {r : Row T A} {s : PhraseShape} → Reads class r s → (ts rest : List T) (a : A) → r.run ts ≡ Done a rest → length rest ≤ length ts
read_no_more {T} {A} {class} {r} {s} h ts rest a e = takes_left r ts (Done a rest) (takes_at h ts (Done a rest) e)

-- and so are the tokens from the bad one on
pub bad_no_more : {T A : Type 0} {class : T → ℕ} {r : Row T A} {s : PhraseShape} → Reads class r s → (ts rest : List T) → r.run ts ≡ Bad rest → length rest ≤ length ts
bad_no_more {T} {A} {class} {r} {s} h ts rest e = takes_left r ts (Bad rest) (takes_at h ts (Bad rest) e)

less : {T A : Type 0} {class : T → ℕ} {r : Row T A} {s : PhraseShape} → Reads class r s → s.empty ≡ false → (ts rest : List T) (a : A) → Takes r ts (Done a rest) → length rest < length ts
less h some ts rest a ([], e, w) = absurd (let k = h.empty a w in cc)
less h some ts rest a (u ∷ us, e, w) = omega (arith, ap length e, length-append us rest)

-- a phrase that is not empty takes a token at least
pub read_less : {T A : Type 0} {class : T → ℕ} {r : Row T A} {s : PhraseShape} → Reads class r s → s.empty ≡ false → (ts rest : List T) (a : A) → r.run ts ≡ Done a rest → length rest < length ts
read_less h some ts rest a e = less h some ts rest a (takes_at h ts (Done a rest) e)
