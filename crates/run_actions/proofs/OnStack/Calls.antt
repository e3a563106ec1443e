-- A function begins behind all frames, and leaves them as they were.
use Rattle.std.proofs.Common.{◌≡◌, ℕ, ◌+◌, ◌-◌, ◌≤◌, List, [], ◌∷◌, ◌++◌, length, take, reverse, replicate, refl, ap, ◌∙◌, arith}
use Rattle.std.proofs.lemmas.List.{reverse-append, take_at, drop_at, take_all, drop_all, length-take-le, length-append, length-replicate, length_push}
use Rattle.ir_eval.specs.declared.value.Pointer.{Pointer}
use Rattle.ir_eval.specs.declared.value.Scalar.{Scalar}
use Rattle.ir_eval.specs.declared.value.Scalar.TheVariants.{Poison}
use Rattle.run_rules.specs.Calls.{begun}
use Rattle.run_rules.specs.State.{weight_limit}
use Rattle.run_actions.specs.declared.stack.mark.Mark.{Mark}
use Rattle.run_actions.specs.Stack.Pool.{frames_of, IsPool, seen}
use Rattle.run_actions.specs.Stack.UnderWay.{older, IsRunning}

-- the mark of a function that begins
abbrev pub mark_of : ℕ → ℕ → ℕ → ℕ → Mark
mark_of function to leaves allocas = record { function = function; block = 0; position = 0; to = to; first = leaves; allocas = allocas }

-- the frame behind the others is the one that has begun
pub begun_behind : (leaves arguments : List Scalar) (allocas : List Pointer) (m : Mark) (ns : List Mark) (function count to : ℕ)
    → frames_of (leaves ++ (arguments ++ replicate (count - length arguments) Poison)) allocas (mark_of function to (length leaves) (length allocas)) (m ∷ ns) ≡ begun function count arguments to ∷ frames_of leaves allocas m ns
begun_behind leaves arguments allocas m ns function count to =
    let more = arguments ++ replicate (count - length arguments) Poison in
    rw (drop_at leaves more (length leaves) refl, take_at leaves more (length leaves) refl, drop_all (length allocas) allocas (omega arith), take_all (length allocas) allocas (omega arith)) refl

pub begun_newest : (leaves arguments : List Scalar) (allocas : List Pointer) (m : Mark) (below : List Mark) (function count to widest : ℕ)
    → seen (leaves ++ (arguments ++ replicate (count - length arguments) Poison)) allocas (mark_of function to (length leaves) (length allocas)) (below ++ m ∷ []) widest
    ≡ record { frames = begun function count arguments to ∷ frames_of leaves allocas m (reverse below); widest = widest }
begun_newest leaves arguments allocas m below function count to widest =
    rw (reverse-append below (m ∷ []))
    (ap (λ fs. record { frames = fs; widest = widest }) (begun_behind leaves arguments allocas m (reverse below) function count to))

-- it lies behind them
pub begun_within : (leaves allocas count function to : ℕ) (m : Mark) (below : List Mark) → IsPool leaves allocas m below → length below + leaves + 1 + count ≤ weight_limit
    → IsPool (leaves + count) allocas (mark_of function to leaves allocas) (below ++ m ∷ [])
begun_within leaves allocas count function to m below h light =
    record {
      behind = rw (reverse-append below (m ∷ [])) (omega arith, omega arith, h.behind);
      light = omega (arith, light, length_push below m);
    }

-- `now` and `others` are the leaves and the marks below once it has begun
pub begun_pool : (leaves now : List Scalar) (allocas : List Pointer) (m : Mark) (below others : List Mark) (function to count first alloca : ℕ) (arguments : List Scalar) → length arguments ≤ count
    → IsPool (length leaves) (length allocas) m below → length below + length leaves + 1 + count ≤ weight_limit → now ≡ leaves ++ (arguments ++ replicate (count - length arguments) Poison)
    → others ≡ below ++ m ∷ [] → first ≡ length leaves → alloca ≡ length allocas → IsPool (length now) (length allocas) (mark_of function to first alloca) others
begun_pool leaves now allocas m below others function to count first alloca arguments few h light leaves_are marks_are first_is alloca_is =
    let more = replicate (count - length arguments) Poison in
    let long : length now ≡ length leaves + count =
    omega (arith, few, ap length leaves_are, length-append leaves (arguments ++ more), length-append arguments more, length-replicate (count - length arguments) Poison) in
    rw (long, marks_are, first_is, alloca_is) (begun_within (length leaves) (length allocas) count function to m below h light)

-- the frames below are left as they lay
pub left_newest : (leaves : List Scalar) (allocas : List Pointer) (m caller : Mark) (below rest : List Mark) (widest : ℕ) → below ≡ rest ++ caller ∷ []
    → seen (take m.first leaves) (take m.allocas allocas) caller rest widest ≡ record { frames = older (frames_of leaves allocas m (reverse below)); widest = widest }
left_newest leaves allocas m caller below rest widest e = rw (e, reverse-append rest (caller ∷ [])) refl

pub left_within : (leaves : List Scalar) (allocas : List Pointer) (m caller : Mark) (below rest : List Mark) → below ≡ rest ++ caller ∷ [] → IsPool (length leaves) (length allocas) m below
    → IsPool (length (take m.first leaves)) (length (take m.allocas allocas)) caller rest
left_within leaves allocas m caller below rest e h =
    let b = rw (e, reverse-append rest (caller ∷ [])) at h.behind in
    let fewer : length (take m.first leaves) ≡ m.first = length-take-le m.first leaves b.0 in
    let before : length (take m.allocas allocas) ≡ m.allocas = length-take-le m.allocas allocas b.1 in
    let many : length below ≡ length rest + 1 = ap length e ∙ length_push rest caller in
    record { behind = rw (fewer, before) b.2; light = omega (arith, h.light, b.0, fewer, many) }

-- where a function is under way, a mark stands below its own
pub some_below : (leaves : List Scalar) (allocas : List Pointer) (m : Mark) (below : List Mark) → IsRunning (frames_of leaves allocas m (reverse below)) → length below ≡ 0 → ⊥
some_below leaves allocas m [] h e = h
some_below leaves allocas m (n ∷ ns) h e = absurd (omega (arith, e))
