-- One more thread's number, and texts of which one is none.
use Rattle.std.proofs.Common.{ℕ, zero, suc, ◌<◌, List, [], ◌∷◌, ◌++◌, Bor, length, map, get_or, arith}
use Rattle.clap.specs.Words.{Text}
use Rattle.command.specs.Asked.{AreThreads, IsDecimal}

pub one_more : (pieces : List Text) (numbers : List ℕ) (piece : Text) (n : ℕ) → AreThreads pieces numbers → IsDecimal piece n → AreThreads (pieces ++ piece ∷ []) (numbers ++ n ∷ [])
one_more [] [] piece n are is = (is, tt)
one_more [] (m ∷ numbers) piece n are is = absurd are
one_more (p ∷ pieces) [] piece n are is = absurd are
one_more (p ∷ pieces) (m ∷ numbers) piece n are is = (are.0, one_more pieces numbers piece n are.1 is)

-- where one text is no number, the texts are none
pub unlisted : (pieces : List (Bor Text)) (k : ℕ) (d : Bor Text) → k < length pieces → ((n : ℕ) → IsDecimal (get_or pieces k d).now n → ⊥) → (ns : List ℕ) → AreThreads (map (λ p. p.now) pieces) ns → ⊥
unlisted [] k d low none ns are = absurd (omega (arith, low))
unlisted (p ∷ pieces) zero d low none [] are = are
unlisted (p ∷ pieces) zero d low none (n ∷ ns) are = none n are.0
unlisted (p ∷ pieces) (suc k) d low none [] are = are
unlisted (p ∷ pieces) (suc k) d low none (n ∷ ns) are = unlisted pieces k d (omega (arith, low)) none ns are.1
