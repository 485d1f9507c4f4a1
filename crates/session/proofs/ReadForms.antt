-- The forms that the reader accepts can be typed: their names are bound, their labels small, and record forms are known.
use Rattle.std.proofs.Common.{◌≡◌, ℕ, suc, ◌+◌, ◌-◌, ◌<◌, ◌≤◌, Bool, true, false, cond, not, ◌&&◌, List, [], ◌∷◌, length, Some, None, Ok, Option, sym, refl, subst, arith}
use Rattle.std.specs.Option.{option_map}
use Rattle.ground.specs.Names.{Name, same_name}
use Rattle.ground.specs.Forms.{Form}
use Rattle.ground.specs.declared.place.Place.{Place}
use Rattle.ground.proofs.Built.{no_way}
use Rattle.words.specs.Sheets.{position}
use Rattle.words.specs.Keywords.{is_record_form}
use Rattle.words.specs.declared.keyword.Keyword.{Keyword}
use Rattle.words.specs.declared.keyword.Keyword.TheVariants.{Fun, Call, Let, Rec, If, Record, With, Get, Drop}
use Rattle.script.specs.declared.part.Part.{Part}
use Rattle.script.specs.declared.part.Part.TheVariants.{Binder, Label, Sub, Body}
use Rattle.script.specs.Tokens.{Token}
use Rattle.script.specs.Faults.{span}
use Rattle.script.specs.Parts.{parts_of, Pieces, first_of, others_of, one, two, made}
use Rattle.script.specs.Reads.{Setting, reading}
use Rattle.grammar.specs.Grammar.{strict, SaysWord, a_truth, a_whole, some_tenths, too_large, a_name, Says, by_word, in_brackets, Behind, no_more, binder, label, sub, body}
use Rattle.grammar.proofs.Accepts.{accepts}
use Rattle.system.specs.Meaning.{Kind}
use Rattle.engine.specs.Proper.{Proper}

none_some : {m : ℕ} → ◌≡◌ {A = Option ℕ} None (Some m) → ⊥
none_some e = let z : ◌≡◌ {A = ℕ} 0 1 = cc in omega arith

some_inj : {m n : ℕ} → ◌≡◌ {A = Option ℕ} (Some m) (Some n) → m ≡ n
some_inj e = cc

-- The number of a label on the sheet.
position_below : (ls : List Name) (w : Name) (m : ℕ) → position ls w ≡ Some m → m < length ls
position_below [] w m e = absurd (none_some e)
position_below (l ∷ ls) w m e = go (same_name l w) e (position_below ls w)
  where
    later : (o : Option ℕ) → ((i : ℕ) → o ≡ Some i → i < length ls) → option_map suc o ≡ Some m → m < suc (length ls)
    later None f h = absurd (none_some h)
    later (Some i) f h = let z = f i refl in let y = some_inj h in omega arith

    go : (b : Bool) → cond b (Some 0) (option_map suc (position ls w)) ≡ Some m → ((i : ℕ) → position ls w ≡ Some i → i < length ls) → m < suc (length ls)
    go true h f = let z = some_inj h in omega arith
    go false h f = later (position ls w) f h

module _ (K : Kind) (S : Setting) (records : S.records ≡ true → 10 ≤ K.heads) (small : length S.sheet ≤ 24) where
  -- A record form is accepted only where records are known.
  with_records : (b r : Bool) → b ≡ true → not (b && not r) ≡ true → r ≡ true
  with_records true true e h = refl
  with_records true false e h = absurd (no_way h)
  with_records false r e h = absurd (no_way e)

  ten : (k : Keyword) → is_record_form k ≡ true → (strict S).known k ≡ true → 10 ≤ K.heads
  ten k e h = records (with_records (is_record_form k) S.records e h)

  few : (w : Name) (m : ℕ) → position S.sheet w ≡ Some m → m ≤ 23
  few w m e = let z = position_below S.sheet w m e in omega arith

  word_proper : {ns : List Name} {f : Form} → (p : Place) (w : List ℕ) → SaysWord (strict S) ns p w f → Proper K ns f
  word_proper p w (a_truth e) = tt
  word_proper p w (a_whole e) = tt
  word_proper p w (some_tenths e) = tt
  word_proper p w (too_large e h) = tt
  word_proper p w (a_name e h) = h

  -- What was read behind a keyword: b is the name bound and l the label so far, n and m are those in the end, fs the forms still to come.
  abbrev PartsProper : List Name → List Part → Name → ℕ → Name → ℕ → List Form → Type 0
  PartsProper ns [] b l n m fs = (n ≡ b) × (m ≡ l)
  PartsProper ns (Binder ∷ ps) b l n m fs = (w : Name) × PartsProper ns ps w l n m fs
  PartsProper ns (Label ∷ ps) b l n m fs = (i : ℕ) × (i ≤ 23) × PartsProper ns ps b i n m fs
  PartsProper ns (Sub ∷ ps) b l n m fs = Proper K ns (first_of fs) × PartsProper ns ps b l n m (others_of fs)
  PartsProper ns (Body ∷ ps) b l n m fs = Proper K (b ∷ ns) (first_of fs) × PartsProper ns ps b l n m (others_of fs)

  under : (ns : List Name) (n w : Name) (f : Form) → n ≡ w → Proper K (w ∷ ns) f → Proper K (n ∷ ns) f
  under ns n w f e h = subst (λ (x : Name). Proper K (x ∷ ns) f) (sym e) h

  at_most : (m i : ℕ) → i ≤ 23 → m ≡ i → m ≤ 23
  at_most m i h e = omega arith

  made_proper : (ns : List Name) (k : Keyword) (p : Place) (q : Pieces) → (strict S).known k ≡ true → PartsProper ns (parts_of k) [] 0 q.binder q.label q.forms → Proper K ns (made k p q)
  made_proper ns Fun p q n (w, (s, (e, l))) = under ns q.binder w (one q) e s
  made_proper ns Call p q n (s, (t, e)) = (s, t)
  made_proper ns Let p q n (w, (s, (t, (e, l)))) = (s, under ns q.binder w (two q) e t)
  made_proper ns Rec p q n (w, (s, (e, l))) = under ns q.binder w (one q) e s
  made_proper ns If p q n (s, (t, (u, e))) = (s, t, u)
  made_proper ns Record p q n h = ten Record refl n
  made_proper ns With p q n (s, (i, b, (t, (e, l)))) = (ten With refl n, at_most q.label i b l, s, t)
  made_proper ns Get p q n (s, (i, b, (e, l))) = (ten Get refl n, at_most q.label i b l, s)
  made_proper ns Drop p q n (s, (i, b, (e, l))) = (ten Drop refl n, at_most q.label i b l, s)

  mutual
    says_proper : {ns : List Name} {ts rest : List Token} {f : Form} → Says (strict S) ns ts f rest → Proper K ns f
    says_proper (by_word {p = p} {w = w} s) = word_proper p w s
    says_proper (in_brackets {ns = ns} {i = i} j k q n h) = made_proper ns k (span i (j + 1 - i)) q n (behind_proper h)

    behind_proper : {ns : List Name} {ps : List Part} {b : Name} {l : ℕ} {ts rest : List Token} {q : Pieces} → Behind (strict S) ns ps b l ts q rest
        → PartsProper ns ps b l q.binder q.label q.forms
    behind_proper no_more = (refl, refl)
    behind_proper (binder {w = w} g h) = (w, behind_proper h)
    behind_proper (label {m = m} {w = w} g e h) = (m, few w m e, behind_proper h)
    behind_proper (sub s h) = (says_proper s, behind_proper h)
    behind_proper (body s h) = (says_proper s, behind_proper h)

  pub read_proper : (text : List ℕ) (f : Form) → reading S text ≡ Ok f → Proper K S.names f
  read_proper text f e = says_proper ((accepts S text f).0 e).says
