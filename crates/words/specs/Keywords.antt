-- The words that bracketed forms begin with.
use Rattle.std.specs.Prelude.{ℕ, Bool, true, false, cond, List, Some, None, codes, Option}
use Rattle.ground.specs.Names.{same_name}
use Rattle.words.specs.declared.keyword.Keyword.{Keyword}
use Rattle.words.specs.declared.keyword.Keyword.TheVariants.{Fun, Call, Let, Rec, If, Record, With, Get, Drop}

abbrev pub spelling : Keyword → List ℕ
spelling Fun = codes "fun"
spelling Call = codes "call"
spelling Let = codes "let"
spelling Rec = codes "rec"
spelling If = codes "if"
spelling Record = codes "record"
spelling With = codes "with"
spelling Get = codes "get"
spelling Drop = codes "drop"

abbrev pub keyword_or : Keyword → List ℕ → Option Keyword → Option Keyword
keyword_or k w other = cond (same_name w (spelling k)) (Some k) other

-- the keyword that a word spells
abbrev pub keyword_of : List ℕ → Option Keyword
keyword_of w =
    keyword_or Fun w (keyword_or Call w (keyword_or Let w (keyword_or Rec w (keyword_or If w
    (keyword_or Record w (keyword_or With w (keyword_or Get w (keyword_or Drop w None))))))))

-- the forms that need records to be known
abbrev pub is_record_form : Keyword → Bool
is_record_form Fun = false
is_record_form Call = false
is_record_form Let = false
is_record_form Rec = false
is_record_form If = false
is_record_form Record = true
is_record_form With = true
is_record_form Get = true
is_record_form Drop = true
