-- The arrows of a picture: which aborts have one, from which glyph to which it leads, and how it is drawn.
use Rattle.std.specs.Prelude.{ℕ, ◌+◌, ◌*◌, ◌==◌, List, [], ◌∷◌, ◌++◌, Bool, false, nat_lt, codes, decimal, Option}
use Rattle.std.specs.Prelude.{Some, None, fold, if◌then◌else◌, option_map, option_and_then, option_to_list}
use Rattle.norec_core.specs.declared.step.Access.{Access}
use Rattle.norec_core.specs.declared.step.Access.TheVariants.{LoadWord, StoreWord}
use Rattle.machine.specs.declared.event.Event.{Event}
use Rattle.machine.specs.declared.event.Event.TheVariants.{Abort}
use Rattle.picture.specs.declared.arrow.Arrow.{Arrow}
use Rattle.picture.specs.declared.arrow.ArrowEnd.{ArrowEnd}
use Rattle.picture.specs.Figures.{line_text, measure}
use Rattle.picture.specs.Glyphs.{Glyph, group_text, height_of}

-- where an arrow ends that leads from a glyph or to it: by which access, at which thread and how high
abbrev pub end_at : Glyph → ArrowEnd
end_at g = record { access = g.step.accesses; thread = g.step.thread; height = height_of g.figures }

abbrev pub is_store_to : ℕ → Access → Bool
is_store_to cell (StoreWord to word) = to == cell
is_store_to cell _ = false

-- the last store to a cell among glyphs
abbrev pub last_store : ℕ → List Glyph → Option ArrowEnd
last_store cell glyphs =
    fold (λ found g. if is_store_to cell g.step.access then Some (end_at g) else found) None glyphs

-- the cell whose value aborts an attempt in a step
abbrev pub dropped_for : Access → Event → Option ℕ
dropped_for (LoadWord cell) Abort = Some cell
dropped_for _ _ = None

-- the arrow to a glyph after others, if it has one: if its step aborts an attempt because a word was stored, from the
-- last such store
abbrev pub arrow_to : List Glyph → Glyph → Option (ArrowEnd × ArrowEnd)
arrow_to before g = option_map (λ store. (store, end_at g))
    (option_and_then (λ cell. last_store cell before) (dropped_for g.step.access g.step.happening))

-- the arrows to glyphs after others, in their order
abbrev pub arrows_behind : List Glyph → List Glyph → List (ArrowEnd × ArrowEnd)
arrows_behind before [] = []
arrows_behind before (g ∷ gs) = option_to_list (arrow_to before g) ++ arrows_behind (before ++ g ∷ []) gs

abbrev pub arrows_among : List Glyph → List (ArrowEnd × ArrowEnd)
arrows_among glyphs = arrows_behind [] glyphs

-- the sides of a thread's lane
abbrev pub left_of : ℕ → ℕ
left_of thread = 198 * thread + 112

abbrev pub right_of : ℕ → ℕ
right_of thread = left_of thread + 170

-- the sides at which an arrow begins and ends: those that face each other
abbrev pub start_of : Arrow → ℕ
start_of a = if nat_lt a.store.thread a.load.thread then right_of a.store.thread else left_of a.store.thread

abbrev pub tip_of : Arrow → ℕ
tip_of a = if nat_lt a.store.thread a.load.thread then left_of a.load.thread else right_of a.load.thread

-- across at the store, up or down, and across at the load
abbrev pub corners : Arrow → List (ℕ × ℕ)
corners a = (start_of a, a.store.height) ∷ (a.gutter, a.store.height) ∷ (a.gutter, a.load.height)
    ∷ (tip_of a, a.load.height) ∷ []

abbrev pub dot_text : (x y : ℕ) → List ℕ
dot_text x y =
    codes "<circle" ++ measure (codes "cx") x ++ measure (codes "cy") y ++ codes " r=\"2.5\" class=\"dot\"/>\n"

abbrev pub arrow_title : Arrow → List ℕ
arrow_title a = codes "access " ++ decimal a.store.access ++ codes ", then access " ++ decimal a.load.access

-- an arrow as it is drawn, with a dot at its beginning
abbrev pub arrow_way : Arrow → List ℕ
arrow_way a = line_text (corners a) (codes "why") ++ dot_text (start_of a) a.store.height

abbrev pub arrow_text : Arrow → List ℕ
arrow_text a = group_text (arrow_title a) (arrow_way a)
