-- What is due to each call of a session, by a book that is fed with the calls.
use Rattle.std.specs.Prelude.{◌≡◌, ℕ, ◌<◌, ◌≤◌, Bool, true, false, not, ◌⊎◌, List, [], ◌∷◌, ◌++◌, length, drop, Ok, Err, ◌==◌, nat_le}
use Rattle.std.proofs.Math.Option.{none}
use Rattle.ground.specs.Values.{Ty}
use Rattle.ground.specs.Names.{Name, named, built_in_list}
use Rattle.ground.specs.Forms.{Form}
use Rattle.ground.specs.Belongs.{Env, Given, Belongs, built_in, names as names_of}
use Rattle.ground.specs.declared.place.Place.{Place}
use Rattle.words.specs.Spelling.{good_name}
use Rattle.script.specs.Faults.{Out, number}
use Rattle.script.specs.Reads.{Setting, reading}
use Rattle.system.specs.Meaning.{Kind, Meaning}
use Rattle.system.specs.Requests.{Request, Reply}
use Rattle.engine.specs.Trees.{Scope}
use Rattle.engine.specs.Calls.{typing, answer}
use Rattle.engine.specs.Runs.{Outcome, typed, stopped, Ran}
use Rattle.engine.specs.Schemes.{Scheme}
use Rattle.engine.specs.Standing.{Standing}

-- Scripts, texts and outputs are bytes.
abbrev pub Bytes : Type 0
Bytes = List ℕ

-- The definitions that stand, each name with its ground types, the latest first.
abbrev pub Book : Type 1
Book = Env

-- The calls: a name and a script, a script, a name, nothing.
pub data Call : Type 0 where
  define : Name → Bytes → Call
  check : Bytes → Call
  show : Name → Call
  back : Call

-- The answers: the length of the text that was written; that the latest definition is gone; a fault by its number, place and layer.
pub data Answer : Type 0 where
  wrote : ℕ → Answer
  taken_back : Answer
  refused : ℕ → Place → ℕ → Answer

-- A call that was answered, with its output before and after it.
pub record Event : Type 0 where
  pub call : Call
  pub room : Bytes
  pub answer : Answer
  pub left : Bytes

-- The place of a fault that has none.
abbrev pub nowhere : Place
nowhere = record { start = 0; length = 0 }

-- The text is written to the front of the output, and its length answered; the bytes behind it stay.
abbrev pub Writes : Bytes → Event → Type 0
Writes text v = (length text ≤ length v.room) × (v.answer ≡ wrote (length text)) × (v.left ≡ text ++ drop (length text) v.room)

-- The fault is answered, and no byte is written.
abbrev pub Refuses : ℕ → Place → ℕ → Event → Type 0
Refuses f p l v = (v.answer ≡ refused f p l) × (v.left ≡ v.room)

-- A system of this kind knows classes.
abbrev pub with_classes : Kind → Bool
with_classes K = not (K.classes == 0)

-- What a script is read with: the labels of the sheet, and the names of the book over the built-in ones. Record forms are known with ten heads.
abbrev pub setting : Kind → List Name → Book → Setting
setting K sheet b = record { records = nat_le 10 K.heads; sheet = sheet; names = names_of b ++ built_in_list (with_classes K) }

-- The types of the names that a script may use: the book over the built-in names, a name's latest entry counting.
abbrev pub env_of : Kind → Book → Env
env_of K b = b ++ built_in (with_classes K)

-- The book without its latest definition.
abbrev pub latest_gone : Book → Book
latest_gone [] = []
latest_gone (d ∷ ds) = ds

-- K is what the system knows, and sheet the labels. Text: what is a text printed by the rules. words: how many words its type has. TextHas: its
-- ground types. ok, meaning, asked and rank are the system's. Solved s c text: the text is that of the code c in the state s.
module _
    (K : Kind)
    (sheet : List Name)
    (Text : Bytes → Type 0)
    (words : Bytes → ℕ)
    (TextHas : Bytes → Ty → Type 0)
    {S : Type 0}
    (ok : S → Type 0)
    (meaning : S → Meaning)
    (asked : S → Request → Reply → S → Type 0)
    (rank : S → ℕ → ℕ)
    (Solved : S → ℕ → Bytes → Type 0)
  where
    -- A fine system with no call that counts and no code was asked the calls of the typing, under schemes that stand for the names, and they came to this.
    pub record Came (b : Book) (e : Form) (o : Outcome) : Type 0 where
      pub scope : Scope
      pub from : S
      pub to : S
      pub fine : ok from
      pub standing : Standing K (meaning from) (env_of K b) scope
      pub unused : (meaning from).state.count ≡ 0
      pub empty : (c : ℕ) → (meaning from).state.sort_of c ≡ none
      pub ran : Ran asked (Scheme meaning rank) from (typing e scope answer) o to

    -- The text of a script to which types belong: printed by the rules from what was solved, with every type that belongs and no other.
    pub record Typing (b : Book) (e : Form) (text : Bytes) : Type 0 where
      pub printed : Text text
      pub sound : (T : Ty) → TextHas text T → Belongs (env_of K b) e T
      pub complete : (T : Ty) → Belongs (env_of K b) e T → TextHas text T
      pub some : (T : Ty) × Belongs (env_of K b) e T
      pub code : ℕ
      pub came : Came b e (typed code)
      pub solved : Solved came.to code text

    -- A form that was read is typed. Where types belong, its text is told: 18 where its type has over 256 words, else 22 where it exceeds the output.
    -- Where none belongs, the one of 12 to 15 that the system answered is. 16 and 17 are told only where the system so answered.
    pub data DueForm (b : Book) (e : Form) (v : Event) : Type 0 where
      accepted : (text : Bytes) → Typing b e text → words text ≤ 256 → Writes text v → DueForm b e v
      too_long : (text : Bytes) → Typing b e text → 256 < words text → Refuses 18 nowhere 2 v → DueForm b e v
      no_room :
          (text : Bytes)
          → Typing b e text
          → words text ≤ 256
          → length v.room < length text
          → Refuses 22 nowhere 2 v
          → DueForm b e v
      no_type :
          (p : Place) (f l : ℕ)
          → 12 ≤ f
          → f ≤ 15
          → ((T : Ty) → Belongs (env_of K b) e T → ⊥)
          → Came b e (stopped p f l)
          → Refuses f p l v
          → DueForm b e v
      limit : (p : Place) (f l : ℕ) → ((f ≡ 16) ⊎ (f ≡ 17)) → Came b e (stopped p f l) → Refuses f p l v → DueForm b e v

    -- A script that the reader refuses is refused with its fault, layer 1.
    abbrev pub DueReading : Book → Out Form → Event → Type 0
    DueReading b (Ok e) v = DueForm b e v
    DueReading b (Err f) v = Refuses (number f.reason) f.place 1 v

    -- Check: the script is read, and its form typed.
    abbrev pub DueCheck : Book → Bytes → Event → Type 0
    DueCheck b s v = DueReading b (reading (setting K sheet b) s) v

    -- Define: 5 for a bad name, else 19 when 32 definitions stand, else as check.
    abbrev pub DueDefine : Book → Name → Bytes → Event → Type 0
    DueDefine b n s v =
        (good_name n ≡ false → Refuses 5 nowhere 2 v)
        × (good_name n ≡ true → 32 ≤ length b → Refuses 19 nowhere 2 v)
        × (good_name n ≡ true → length b < 32 → DueCheck b s v)

    -- The text has the ground types of the latest definition of the name.
    pub record Shows (b : Book) (n : Name) (text : Bytes) : Type 0 where
      pub printed : Text text
      pub sound : (T : Ty) → TextHas text T → Given b n T
      pub complete : (T : Ty) → Given b n T → TextHas text T

    -- Show, of a name that is defined: its text, or 22 where it exceeds the output.
    pub data DueText (b : Book) (n : Name) (v : Event) : Type 0 where
      shown : (text : Bytes) → Shows b n text → Writes text v → DueText b n v
      no_room : (text : Bytes) → Shows b n text → length v.room < length text → Refuses 22 nowhere 2 v → DueText b n v

    -- Show: 10 for a name that is not defined.
    abbrev pub DueShow : Book → Name → Event → Type 0
    DueShow b n v = (named (names_of b) n ≡ false → Refuses 10 nowhere 2 v) × (named (names_of b) n ≡ true → DueText b n v)

    -- Back: 20 when no definition stands, else the latest goes, and no byte is written.
    abbrev pub DueBack : Book → Event → Type 0
    DueBack [] v = Refuses 20 nowhere 2 v
    DueBack (d ∷ ds) v = (v.answer ≡ taken_back) × (v.left ≡ v.room)

    -- What is due to a call by the book as it stands.
    abbrev pub DueCall : Book → Call → Event → Type 0
    DueCall b (define n s) v = DueDefine b n s v
    DueCall b (check s) v = DueCheck b s v
    DueCall b (show n) v = DueShow b n v
    DueCall b back v = DueBack b v

    -- What is due to a call that was answered.
    abbrev pub Due : Book → Event → Type 0
    Due b v = DueCall b v.call v

    -- The types that belong to what was read; none where it was refused.
    abbrev pub types_of : Book → Out Form → Ty → Type 0
    types_of b (Ok e) T = Belongs (env_of K b) e T
    types_of b (Err f) T = ⊥

    -- The book after a call: a definition that was answered with a text is listed with the types that belong to its script, back takes the latest
    -- off, and nothing else changes it.
    abbrev pub next_book : Book → Call → Answer → Book
    next_book b (define n s) (wrote k) = (n, types_of b (reading (setting K sheet b) s)) ∷ b
    next_book b (define n s) taken_back = b
    next_book b (define n s) (refused f p l) = b
    next_book b (check s) a = b
    next_book b (show n) a = b
    next_book b back (wrote k) = b
    next_book b back taken_back = latest_gone b
    next_book b back (refused f p l) = b

    -- The book after a call that was answered.
    abbrev pub after : Book → Event → Book
    after b v = next_book b v.call v.answer

    -- A whole run: each call is answered as is due by the book as it then stands.
    abbrev pub Heard : Book → List Event → Type 0
    Heard b [] = Unit {0}
    Heard b (v ∷ vs) = Due b v × Heard (after b v) vs

    -- The book at the end of a run.
    abbrev pub book_after : Book → List Event → Book
    book_after b [] = b
    book_after b (v ∷ vs) = book_after (after b v) vs
