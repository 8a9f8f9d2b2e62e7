-- Programs with `long long`, computed.
use Rattle.std.proofs.Common.{◌≡◌, refl, List, [], ◌∷◌, Some, None, true, false}
use Rattle.std.specs.Prelude.{codes}
use Rattle.std.specs.Fmt.{digits}
use Rattle.lex.specs.declared.token.Scalar.TheVariants.{Int, Unsigned, LongLong}
use Rattle.syntax.specs.declared.tree.UnaryOp.TheVariants.{Negate}
use Rattle.syntax.specs.declared.tree.BinaryOp.TheVariants.{Add, Less, ShiftLeft}
use Rattle.syntax.specs.declared.thread_end.Trap.TheVariants.{OutOfRange, Index}
use Rattle.syntax.specs.declared.thread_end.Halt.TheVariants.{Trapped}
use Rattle.syntax.specs.Tree as Tree
use Rattle.syntax.specs.Tree.{Constant, Element, Unary, Binary, Assign, Do, Print, Shares, Program}
use Rattle.syntax.specs.Names.{initial_memory, bounds}
use Rattle.syntax.specs.Formats.{Literal, Specifier, pieces, is_format}
use Rattle.syntax.specs.Behaviours.{Ended, Stopped}
use Rattle.syntax.specs.Threads.{thread}
use Rattle.syntax.proofs.samples.Rows.{here, called, var, num, set_to, atomic, just, worker_with}
use Rattle.syntax.proofs.samples.MoreRows.{plus}

-- long long x = 9223372036854775807; W{ atomic { x = x + 1; } }
abbrev most : Program
most = Shares (record { ty = LongLong; name = called (codes "x"); length = None; first = record { negative = false; value = 9223372036854775807; ty = LongLong; span = here } ∷ [] } ∷ []) ∷ worker_with (just (atomic (just (set_to (codes "x") (plus (var (codes "x")) (num 1)))))) ∷ []

pub most_row : thread most 0 (initial_memory most ∷ []) 100 ≡ record { lefts = initial_memory most ∷ []; text = []; end = Stopped (Trapped OutOfRange) }
most_row = refl

-- int a = 2147483647; long long b; W{ atomic { b = a + 1LL; } }
abbrev sum : Program
sum =
    Shares (record { ty = Int; name = called (codes "a"); length = None; first = record { negative = false; value = 2147483647; ty = Int; span = here } ∷ [] } ∷ [])
    ∷ Shares (record { ty = LongLong; name = called (codes "b"); length = None; first = [] } ∷ [])
    ∷ worker_with (just (atomic (just (set_to (codes "b") (plus (var (codes "a")) (Constant 1 LongLong here)))))) ∷ []

pub sum_row : thread sum 0 (initial_memory sum ∷ []) 100 ≡ record { lefts = (2147483647 ∷ 2147483648 ∷ []) ∷ []; text = []; end = Ended }
sum_row = refl

pub sum_bounds : bounds sum ≡ 4294967296 ∷ 18446744073709551616 ∷ []
sum_bounds = refl

-- int x; W{ atomic { x = 2147483647 + 1LL; } }: an assignment takes the lower bits, and does not trap
abbrev narrowed : Program
narrowed = Shares (record { ty = Int; name = called (codes "x"); length = None; first = [] } ∷ []) ∷ worker_with (just (atomic (just (set_to (codes "x") (plus (num 2147483647) (Constant 1 LongLong here)))))) ∷ []

pub narrowed_row : thread narrowed 0 ((0 ∷ []) ∷ []) 100 ≡ record { lefts = (2147483648 ∷ []) ∷ []; text = []; end = Ended }
narrowed_row = refl

-- W{ printf("%lld", 1LL << 62); }
abbrev shifted : Program
shifted = worker_with (just (Print here (codes "%lld") here (Tree.◌∷◌ (Binary ShiftLeft (Constant 1 LongLong here) (num 62) here) Tree.[]))) ∷ []

pub shifted_row : thread shifted 0 [] 100 ≡ record { lefts = []; text = codes "4611686018427387904"; end = Ended }
unfolding digits
shifted_row = refl

-- W{ printf("%d %d", -1 < 4294967295u, -1LL < 4294967295u); }
abbrev compared : Program
compared =
    worker_with (just (Print here (codes "%d %d") here
    (Tree.◌∷◌ (Binary Less (Unary Negate (num 1) here) (Constant 4294967295 Unsigned here) here)
    (Tree.◌∷◌ (Binary Less (Unary Negate (Constant 1 LongLong here) here) (Constant 4294967295 Unsigned here) here) Tree.[])))) ∷ []

pub compared_row : thread compared 0 [] 100 ≡ record { lefts = []; text = codes "0 1"; end = Ended }
unfolding digits
compared_row = refl

-- int a[1]; W{ atomic { a[4294967296] = 1; } }: an index is looked at whole
abbrev past : Program
past = Shares (record { ty = Int; name = called (codes "a"); length = Some (1, here); first = [] } ∷ []) ∷ worker_with (just (atomic (just (Do (Assign (Element (called (codes "a")) (Constant 4294967296 LongLong here) here) None (num 1)))))) ∷ []

pub past_row : thread past 0 ((0 ∷ []) ∷ []) 100 ≡ record { lefts = (0 ∷ []) ∷ []; text = []; end = Stopped (Trapped Index) }
past_row = refl

-- long long y[3] = {-0x80000000, -1, 4294967295}
abbrev first : Program
first = Shares (record {
  ty = LongLong;
  name = called (codes "y");
  length = Some (3, here);
  first = record { negative = true; value = 2147483648; ty = Unsigned; span = here } ∷ record { negative = true; value = 1; ty = Int; span = here } ∷ record { negative = false; value = 4294967295; ty = LongLong; span = here } ∷ [];
} ∷ []) ∷ worker_with Tree.[] ∷ []

pub first_row : initial_memory first ≡ 2147483648 ∷ 18446744073709551615 ∷ 4294967295 ∷ []
first_row = refl

-- formats
pub formats_row : pieces (codes "a%lld%%%d") ≡ Literal (codes "a") ∷ Specifier LongLong ∷ Literal (codes "%") ∷ Specifier Int ∷ []
formats_row = refl

pub right_format : is_format (codes "%lld %u") ≡ true
right_format = refl

pub no_long : is_format (codes "%ld") ≡ false
no_long = refl

pub no_end : is_format (codes "%ll") ≡ false
no_end = refl
