-- Pieces of a text, each put behind those before.
use Rattle.std.proofs.Common.{◌≡◌, ℕ, List, [], ◌++◌, append_assoc}

pub three_joined : (before a b c one two three : List ℕ) → one ≡ before ++ a → two ≡ one ++ b → three ≡ two ++ c → three ≡ before ++ (a ++ b ++ c)
three_joined before a b c one two three first second third = rw (third, second, first) (simp append_assoc)

pub six_joined : (a b c d e f one two three four five six : List ℕ) → one ≡ [] ++ a → two ≡ one ++ b → three ≡ two ++ c → four ≡ three ++ d → five ≡ four ++ e → six ≡ five ++ f → six ≡ (a ++ b ++ c) ++ d ++ e ++ f
six_joined a b c d e f one two three four five six first second third fourth fifth sixth = rw (sixth, fifth, fourth, third, second, first) (simp append_assoc)

pub seven_joined : (a b c d e f g one two three four five six seven : List ℕ) → one ≡ [] ++ a → two ≡ one ++ b → three ≡ two ++ c → four ≡ three ++ d → five ≡ four ++ e → six ≡ five ++ f → seven ≡ six ++ g → seven ≡ a ++ b ++ c ++ d ++ e ++ f ++ g
seven_joined a b c d e f g one two three four five six seven first second third fourth fifth sixth seventh = rw (seventh, sixth, fifth, fourth, third, second, first) (simp append_assoc)

pub five_joined : (before a b c d e one two three four five : List ℕ) → one ≡ before ++ a → two ≡ one ++ b → three ≡ two ++ c → four ≡ three ++ d → five ≡ four ++ e → five ≡ before ++ (a ++ b ++ c ++ d ++ e)
five_joined before a b c d e one two three four five first second third fourth fifth = rw (fifth, fourth, third, second, first) (simp append_assoc)

pub three_pieces : (a b c one two three : List ℕ) → one ≡ [] ++ a → two ≡ one ++ b → three ≡ two ++ c → three ≡ a ++ b ++ c
three_pieces a b c one two three first second third = rw (third, second, first) (simp append_assoc)

pub four_pieces : (a b c d one two three four : List ℕ) → one ≡ [] ++ a → two ≡ one ++ b → three ≡ two ++ c → four ≡ three ++ d → four ≡ a ++ b ++ c ++ d
four_pieces a b c d one two three four first second third fourth = rw (fourth, third, second, first) (simp append_assoc)

pub five_pieces : (a b c d e one two three four five : List ℕ) → one ≡ [] ++ a → two ≡ one ++ b → three ≡ two ++ c → four ≡ three ++ d → five ≡ four ++ e → five ≡ a ++ b ++ c ++ d ++ e
five_pieces a b c d e one two three four five first second third fourth fifth = rw (fifth, fourth, third, second, first) (simp append_assoc)
