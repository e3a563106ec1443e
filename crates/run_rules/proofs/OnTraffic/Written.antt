-- What was written of what was due.
use Rattle.std.proofs.Common.{◌≡◌, ℕ, ◌+◌, ◌≤◌, List, [], ◌++◌, length, take, drop, Option, Some, None, refl, sym, ap, ◌∙◌, inl, inr, append-nil, append_assoc, arith}
use Rattle.std.proofs.lemmas.List.{take-append-drop, length-append}
use Rattle.ir_base.specs.Outside.{Added, Wrote}
use Rattle.ir_base.proofs.Pieces.{added_more}
use Rattle.run_rules.specs.Traffic.Output.{Puts, WritesFront}

pub added_none : (t : Option (List ℕ)) → Added t t []
added_none None = refl
added_none (Some xs) = ap (λ (ys : List ℕ). Some ys) (sym (append-nil xs))

-- with no more bytes it is what is held
pub front_alone : (before now : Option (List ℕ)) (held : List ℕ) → WritesFront before now (held ++ []) → WritesFront before now held
front_alone before now held w = rw append-nil at w

pub added_alone : (before now : Option (List ℕ)) (held : List ℕ) → Added before now (held ++ []) → Added before now held
added_alone before now held h = rw append-nil at h

-- of what is held, before more bytes
pub front_of_first : (before now : Option (List ℕ)) (m n : ℕ) (held bytes : List ℕ) → Wrote before now m n held → WritesFront before now (held ++ bytes)
front_of_first before now m n held bytes w =
    record {
      flushed = take w.count held;
      added = w.added;
      unwritten = drop w.count held ++ bytes;
      front = sym (append_assoc (take w.count held) (drop w.count held) bytes) ∙ ap (λ (ys : List ℕ). ys ++ bytes) (take-append-drop w.count held);
    }

-- of the bytes behind what is held
pub front_of_second : (before mid now : Option (List ℕ)) (m n : ℕ) (held bytes : List ℕ) → Added before mid held → Wrote mid now m n bytes → WritesFront before now (held ++ bytes)
front_of_second before mid now m n held bytes h w =
    record {
      flushed = held ++ take w.count bytes;
      added = added_more before mid now held (take w.count bytes) h w.added;
      unwritten = drop w.count bytes;
      front = append_assoc held (take w.count bytes) (drop w.count bytes) ∙ ap (λ (ys : List ℕ). held ++ ys) (take-append-drop w.count bytes);
    }

-- nothing is written, and all is held
pub puts_held : (t : Option (List ℕ)) (old bytes new : List ℕ) → new ≡ old ++ bytes → Puts t t old bytes new
puts_held t old bytes new e = record { flushed = []; added = added_none t; whole = e; gathers = inl refl }

-- all is written, and nothing is held
pub puts_through : (before now : Option (List ℕ)) (old bytes new : List ℕ) → Added before now (old ++ bytes) → new ≡ [] → 65536 ≤ length old + length bytes → Puts before now old bytes new
puts_through before now old bytes new h none many =
    record { flushed = old ++ bytes; added = h; whole = ap (λ (ys : List ℕ). (old ++ bytes) ++ ys) none ∙ append-nil (old ++ bytes); gathers = inr (omega (arith, many, length-append old bytes)) }
