-- Each contract of an exported function says that the number and every buffer are those of the operation's one outcome, so that two outcomes which it
-- permits agree in the number and in every buffer. Assumes nothing.
use mathlib.Core.Path.{◌≡◌, sym, ◌∙◌}
use mathlib.Core.List.{List}
use Prim.Native.Nat.{ℕ}
use Rattle.units.specs.Ask.{Query}
use Rattle.entry.specs.Answer.{Answers, Fills, Says, Settles, Draws, Puts}

agree : {A : Type 0} {x y z : A} → x ≡ z → y ≡ z → x ≡ y
agree p q = p ∙ sym q

pub answers_decide : (f before : List ℕ) (r r' : ℕ) (words words' : List ℕ) → Answers f before r words → Answers f before r' words' → (r ≡ r') × (words ≡ words')
answers_decide f before r r' words words' p q = (agree p.0 q.0, agree p.1 q.1)

pub fills_decide : (query : Query) (width : ℕ) (f : List ℕ) (place : ℕ) (before row : List ℕ) (r r' : ℕ) (units units' found found' : List ℕ)
    → Fills query width f place before row r units found → Fills query width f place before row r' units' found'
    → (r ≡ r') × (units ≡ units') × (found ≡ found')
fills_decide query width f place before row r r' units units' found found' p q =
    (agree p.0 q.0, agree p.1 q.1, agree p.2 q.2)

pub says_decide : (f : List ℕ) (place : ℕ) (before : List ℕ) (r r' : ℕ) (units units' : List ℕ)
    → Says f place before r units → Says f place before r' units' → (r ≡ r') × (units ≡ units')
says_decide f place before r r' units units' p q = (agree p.0 q.0, agree p.1 q.1)

pub settles_decide : (f : List ℕ) (number : ℕ) (before live : List ℕ) (r r' : ℕ) (units units' sets sets' : List ℕ)
    → Settles f number before live r units sets → Settles f number before live r' units' sets'
    → (r ≡ r') × (units ≡ units') × (sets ≡ sets')
settles_decide f number before live r r' units units' sets sets' p q =
    (agree p.0 q.0, agree p.1 q.1, agree p.2 q.2)

pub draws_decide : (f before live graph copies : List ℕ) (r r' : ℕ) (units units' sets sets' meets meets' pairs pairs' : List ℕ)
    → Draws f before live graph copies r units sets meets pairs → Draws f before live graph copies r' units' sets' meets' pairs'
    → (r ≡ r') × (units ≡ units') × (sets ≡ sets') × (meets ≡ meets') × (pairs ≡ pairs')
draws_decide f before live graph copies r r' units units' sets sets' meets meets' pairs pairs' p q =
    (agree p.0 q.0, agree p.1 q.1, agree p.2 q.2, agree p.3 q.3, agree p.4 q.4)

pub puts_decide : (f before live graph copies result : List ℕ) (r r' : ℕ) (units units' sets sets' meets meets' pairs pairs' records records' : List ℕ)
    → Puts f before live graph copies result r units sets meets pairs records → Puts f before live graph copies result r' units' sets' meets' pairs' records'
    → (r ≡ r') × (units ≡ units') × (sets ≡ sets') × (meets ≡ meets') × (pairs ≡ pairs') × (records ≡ records')
puts_decide f before live graph copies result r r' units units' sets sets' meets meets' pairs pairs' records records' p q =
    (agree p.0 q.0, agree p.1 q.1, agree p.2 q.2, agree p.3 q.3, agree p.4 q.4, agree p.5 q.5)
