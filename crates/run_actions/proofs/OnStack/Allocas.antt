-- The allocas of the newest frame are the last of all.
use Rattle.std.proofs.Common.{◌≡◌, ℕ, ◌+◌, ◌<◌, ◌≤◌, List, [], ◌∷◌, ◌++◌, length, drop, reverse, Some, None, refl, ap, arith}
use Rattle.std.proofs.lemmas.List.{reverse-append, take-append-le, drop-append-le, drop_all, length_push}
use Rattle.ir_eval.specs.declared.value.Pointer.{Pointer}
use Rattle.ir_eval.specs.declared.value.Scalar.{Scalar}
use Rattle.run_actions.specs.declared.stack.mark.Mark.{Mark}
use Rattle.run_actions.specs.Stack.Pool.{frame_of, frames_of, AreBehind, IsPool}
use Rattle.run_actions.specs.Stack.UnderWay.{newest, on_newest, IsRunning, with_alloca, without_alloca, first_alloca}

-- where a function is under way, there is a mark below its own
runs : (leaves : List Scalar) (allocas : List Pointer) (m : Mark) (ns : List Mark) → IsRunning (frames_of leaves allocas m ns) → 0 < length ns
runs leaves allocas m [] h = absurd h
runs leaves allocas m (n ∷ ns) h = omega arith

behind_more : (leaves allocas : ℕ) (m : Mark) (ns : List Mark) → 0 < length ns → AreBehind leaves allocas m ns → AreBehind leaves (allocas + 1) m ns
behind_more leaves allocas m [] l h = absurd (omega (arith, l))
behind_more leaves allocas m (n ∷ ns) l h = (h.0, omega (arith, h.1), h.2)

behind_less : (leaves allocas : ℕ) (m : Mark) (ns : List Mark) → m.allocas ≤ allocas → AreBehind leaves (allocas + 1) m ns → AreBehind leaves allocas m ns
behind_less leaves allocas m [] l h = absurd (omega (arith, h.1))
behind_less leaves allocas m (n ∷ ns) l h = (h.0, l, h.2)

begins : (leaves allocas : ℕ) (m : Mark) (ns : List Mark) → 0 < length ns → AreBehind leaves allocas m ns → m.allocas ≤ allocas
begins leaves allocas m [] l h = absurd (omega (arith, l))
begins leaves allocas m (n ∷ ns) l h = h.1

module _ (leaves : List Scalar) (m : Mark) where
  -- one more is the newest frame's
  pub one_more : (allocas : List Pointer) (ns : List Mark) (p : Pointer) → AreBehind (length leaves) (length allocas) m ns → frames_of leaves (allocas ++ p ∷ []) m ns ≡ on_newest (with_alloca p) (frames_of leaves allocas m ns)
  one_more allocas [] p h = refl
  one_more allocas (n ∷ ns) p h =
      rw (drop-append-le m.allocas allocas (p ∷ []) h.1, take-append-le m.allocas allocas (p ∷ []) h.1, reverse-append (drop m.allocas allocas) (p ∷ [])) refl

  -- without the last the frame has one less
  frame_less : (rest : List Pointer) (p : Pointer) → m.allocas ≤ length rest → without_alloca (frame_of m leaves (rest ++ p ∷ [])) ≡ frame_of m leaves rest
  frame_less rest p h = rw (drop-append-le m.allocas rest (p ∷ []) h, reverse-append (drop m.allocas rest) (p ∷ [])) refl

  pub one_less : (rest : List Pointer) (ns : List Mark) (p : Pointer) → m.allocas ≤ length rest → frames_of leaves rest m ns ≡ on_newest without_alloca (frames_of leaves (rest ++ p ∷ []) m ns)
  one_less rest [] p h = refl
  one_less rest (n ∷ ns) p h = rw (frame_less rest p h, take-append-le m.allocas rest (p ∷ []) h) refl

  -- whether a function is under way does not turn on allocas
  pub still_running : (allocas others : List Pointer) (ns : List Mark) → IsRunning (frames_of leaves allocas m ns) → IsRunning (frames_of leaves others m ns)
  still_running allocas others [] h = h
  still_running allocas others (n ∷ ns) h = tt

  -- it is the last
  pub last_is : (rest : List Pointer) (ns : List Mark) (p : Pointer) → IsRunning (frames_of leaves rest m ns) → m.allocas ≤ length rest → Some p ≡ first_alloca (newest (frames_of leaves (rest ++ p ∷ []) m ns)).allocas
  last_is rest [] p r h = absurd r
  last_is rest (n ∷ ns) p r h = rw (drop-append-le m.allocas rest (p ∷ []) h, reverse-append (drop m.allocas rest) (p ∷ [])) refl

  -- where the pool ends at the frame's first, it has none
  none_there : (allocas : List Pointer) → length allocas ≡ m.allocas → drop m.allocas allocas ≡ []
  none_there allocas e = drop_all m.allocas allocas (omega (arith, e))

  pub none_first : (allocas : List Pointer) (ns : List Mark) → length allocas ≡ m.allocas → None ≡ first_alloca (newest (frames_of leaves allocas m ns)).allocas
  none_first allocas [] e = refl
  none_first allocas (n ∷ ns) e = rw (none_there allocas e) refl

  pub none_left : (allocas : List Pointer) (ns : List Mark) → length allocas ≡ m.allocas → frames_of leaves allocas m ns ≡ on_newest without_alloca (frames_of leaves allocas m ns)
  none_left allocas [] e = refl
  none_left allocas (n ∷ ns) e = rw (none_there allocas e) refl

-- one alloca more or less lies within the pool, where a function is under way
pub pool_more : (leaves : List Scalar) (allocas : List Pointer) (m : Mark) (below : List Mark) (p : Pointer) → IsRunning (frames_of leaves allocas m (reverse below)) → IsPool (length leaves) (length allocas) m below
    → IsPool (length leaves) (length (allocas ++ p ∷ [])) m below
pool_more leaves allocas m below p r h = record { behind = rw (length_push allocas p) (behind_more (length leaves) (length allocas) m (reverse below) (runs leaves allocas m (reverse below) r) h.behind); light = h.light }

pub pool_less : (leaves : List Scalar) (rest : List Pointer) (m : Mark) (below : List Mark) (p : Pointer) → m.allocas ≤ length rest → IsPool (length leaves) (length (rest ++ p ∷ [])) m below → IsPool (length leaves) (length rest) m below
pool_less leaves rest m below p l h = record { behind = behind_less (length leaves) (length rest) m (reverse below) l (rw (length_push rest p) at h.behind); light = h.light }

-- where a function is under way, the newest frame's allocas begin within the pool
pub first_alloca_within : (leaves : List Scalar) (allocas : List Pointer) (m : Mark) (below : List Mark) → IsRunning (frames_of leaves allocas m (reverse below)) → IsPool (length leaves) (length allocas) m below → m.allocas ≤ length allocas
first_alloca_within leaves allocas m below r h = begins (length leaves) (length allocas) m (reverse below) (runs leaves allocas m (reverse below) r) h.behind

-- where there is one of the newest frame's, it begins among those before the last
pub rest_reaches : (m : Mark) (allocas rest : List Pointer) (p : Pointer) → allocas ≡ rest ++ p ∷ [] → m.allocas ≤ length allocas → (length allocas ≡ m.allocas → ⊥) → m.allocas ≤ length rest
rest_reaches m allocas rest p e within some = omega (arith, within, some, ap length e, length_push rest p)
