-- The data of a page as JSON, and the page.
use Rattle.std.specs.Prelude.{◌≡◌, ◌+◌, ◌*◌, ◌/◌, ◌==◌, ℕ, List, [], ◌∷◌, ◌++◌, codes, decimal, flat_map, map, length, take, drop}
use Rattle.std.specs.Prelude.{if◌then◌else◌, slice_index, slice_index_or}
use Rattle.std.specs.Fmt.{signed_decimal}
use Rattle.std.specs.List.{range_with_len}
use Rattle.lex.specs.declared.token.Scalar.{Scalar}
use Rattle.lex.specs.declared.token.Scalar.TheVariants.{Int, LongLong, Unsigned}
use Rattle.syntax.specs.Numbers.{number as number_in}
use Rattle.json.specs.Print.{print}
use Rattle.json.specs.Written.{Written}
use Rattle.json.specs.Token.{Token, begin_array, begin_object, boolean, end_array, end_object, key, null, number, string}
use Rattle.traces.specs.Names.{cell_of}
use Rattle.traces.specs.Turns.{Named}
use Rattle.pages.specs.Content.{PageData, RestData}
use Rattle.pages.specs.Escaped.{escaped_text}
use Rattle.pages.specs.declared.content.TheConstants.{NO_STATE}
use Rattle.pages.specs.declared.text.TheConstants.{HEAD, TAIL}

-- these tokens are written, and nothing else
pub record Appends (old new : Written) (ts : List Token) : Type 0 where
  pub before : new.before ≡ old.before
  pub tokens : new.tokens ≡ old.tokens ++ ts

-- a list whose elements have these tokens, and members of an object
abbrev pub listed : List Token → List Token
listed ts = begin_array ∷ ts ++ end_array ∷ []

abbrev pub member : List ℕ → List Token → List Token
member name ts = key name ∷ ts

abbrev pub number_token : ℕ → Token
number_token n = number (decimal n)

abbrev pub number_member : List ℕ → ℕ → List Token
number_member name n = key name ∷ number_token n ∷ []

abbrev pub text_member : List ℕ → List ℕ → List Token
text_member name text = key name ∷ string text ∷ []

abbrev pub number_list : List ℕ → List Token
number_list ns = listed (map number_token ns)

-- the state after a turn: nothing if the page lacks it
abbrev pub target_token : ℕ → Token
target_token n = if n == NO_STATE then null else number_token n

abbrev pub target_list : List ℕ → List Token
target_list ns = listed (map target_token ns)

-- the number that a word denotes: as a text if a reader of JSON may not read it exactly
abbrev pub word_token : Scalar → ℕ → Token
word_token Int word = number (signed_decimal (number_in Int word))
word_token Unsigned word = number (signed_decimal (number_in Unsigned word))
word_token LongLong word = string (signed_decimal (number_in LongLong word))

-- the types of this many cells, and the numbers in a memory of these types
abbrev pub types_of : List Named → (cells : ℕ) → List Scalar
types_of names cells = map (λ c. (cell_of names c).ty) (range_with_len 0 cells)

abbrev pub memory_list : List Scalar → List ℕ → List Token
memory_list types words =
    listed (map (λ c. word_token (slice_index_or types c Int) (slice_index words c)) (range_with_len 0 (length words)))

-- the names of this many cells
abbrev pub name_list : List Named → (cells : ℕ) → List Token
name_list names cells = listed (map (λ c. string (cell_of names c).name) (range_with_len 0 cells))

-- how a thread rests
abbrev pub rest_object : RestData → List Token
rest_object r =
    begin_object ∷ number_member (codes "line") r.line ++ number_member (codes "column") r.column
    ++ text_member (codes "words") r.words ++ text_member (codes "end") r.end
    ++ text_member (codes "printed") r.printed ++ end_object ∷ []

-- the cells that a turn reads, and those that it writes
abbrev pub touched_list : List ℕ × List ℕ → List Token
touched_list t = listed (number_list t.0 ++ number_list t.1)

abbrev pub property_object : List ℕ × List ℕ → List Token
property_object p = begin_object ∷ text_member (codes "name") p.0 ++ text_member (codes "values") p.1 ++ end_object ∷ []

-- the entries of a state: this many entries of a list, after as many for each state before it
abbrev pub entries_of : List ℕ → (count state : ℕ) → List ℕ
entries_of list count state = take count (drop (state * count) list)

-- the memory in a row, and the rests of the threads
abbrev pub row_list : List Scalar → (cells : ℕ) → List ℕ → List Token
row_list types cells row = memory_list types (take cells row) ++ number_list (drop cells row)

-- where the turns of a state lead, and what these read and write
abbrev pub turn_list : (targets turns : List ℕ) → (threads state : ℕ) → List Token
turn_list targets turns threads state = target_list (entries_of targets threads state) ++ number_list (entries_of turns threads state)

abbrev pub state_list : PageData → ℕ → List Token
state_list d state =
    listed (row_list (types_of d.globals d.cells) d.cells (entries_of d.rows (d.cells + d.threads) state)
    ++ turn_list d.targets d.turns d.threads state)

abbrev pub state_count : PageData → ℕ
state_count d = length d.targets / d.threads

-- the members of the page's object, in order
abbrev pub head_tokens : PageData → List Token
head_tokens d =
    text_member (codes "file") d.file ++ text_member (codes "options") d.options ++ text_member (codes "source") d.text
    ++ number_member (codes "threads") d.threads ++ member (codes "order") (number_list d.order)

abbrev pub body_tokens : PageData → List Token
body_tokens d =
    member (codes "cells") (name_list d.globals d.cells) ++ member (codes "are_all") (boolean d.are_all ∷ [])
    ++ member (codes "states") (listed (flat_map (state_list d) (range_with_len 0 (state_count d))))

abbrev pub table_tokens : PageData → List Token
table_tokens d =
    member (codes "rests") (listed (flat_map rest_object d.rests))
    ++ member (codes "touched") (listed (flat_map touched_list d.touched))
    ++ member (codes "properties") (listed (flat_map property_object d.properties))

abbrev pub data_tokens : PageData → List Token
data_tokens d = begin_object ∷ head_tokens d ++ body_tokens d ++ table_tokens d ++ end_object ∷ []

-- the page: fixed text, with the data in between
abbrev pub page_bytes : PageData → List ℕ
page_bytes d = HEAD.now ++ escaped_text (print (data_tokens d)) ++ TAIL.now
