-- The content of a page.
use Rattle.std.specs.Prelude.{ℕ, Bool, List, map, unwrap_or}
use Rattle.traces.specs.Turns.{Named}
use Rattle.traces.specs.Views.{named_of}
use Rattle.pages.specs.declared.content.Page.{Page}
use Rattle.pages.specs.declared.content.PropertyShown.{PropertyShown}
use Rattle.pages.specs.declared.content.RestShown.{RestShown}

-- how a thread rests: the line and the column of its next transaction, its first words, how the thread ended, and the
-- text that it has printed
pub record RestData : Type 0 where
  pub line : ℕ
  pub column : ℕ
  pub words : List ℕ
  pub end : List ℕ
  pub printed : List ℕ

-- The data of a page. A row has the words of a memory of this many cells, and then for each thread the number of its rest.
-- Target `j * threads + t` is the state after the turn of thread t in state j, and turn `j * threads + t` the number of
-- the cells that it reads and writes.
pub record PageData : Type 0 where
  pub file : List ℕ
  pub options : List ℕ
  pub text : List ℕ
  pub threads : ℕ
  pub order : List ℕ
  pub globals : List Named
  pub cells : ℕ
  pub rests : List RestData
  pub touched : List (List ℕ × List ℕ)
  pub rows : List ℕ
  pub targets : List ℕ
  pub turns : List ℕ
  pub are_all : Bool
  pub properties : List (List ℕ × List ℕ)

module _ {A : Type 0} where
  abbrev pub rest_data : RestShown A → RestData
  rest_data r = record {
    line = (unwrap_or r.at (0, 0)).0;
    column = (unwrap_or r.at (0, 0)).1;
    words = r.words;
    end = r.end;
    printed = r.printed;
  }

  abbrev pub property_data : PropertyShown A → List ℕ × List ℕ
  property_data p = (p.name, p.values)

  abbrev pub data_of : Page A → PageData
  data_of p = record {
    file = p.file.now;
    options = p.options.now;
    text = p.text.now;
    threads = p.threads;
    order = p.order.now;
    globals = map named_of p.globals.now;
    cells = p.cells;
    rests = map rest_data p.rests.now;
    touched = p.touched.now;
    rows = p.states.rows.now;
    targets = p.states.targets.now;
    turns = p.states.turns.now;
    are_all = p.states.are_all;
    properties = map property_data p.properties.now;
  }
