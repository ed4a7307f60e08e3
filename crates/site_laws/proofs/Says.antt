-- The line of each part of a valid site says the item of that part.
use Rattle.std.proofs.Common.{◌≡◌, ℕ, ◌*◌, ◌^◌, ◌≤◌, ◌<◌, pos, List, [], ◌∷◌, ◌++◌, length, true, not, ◌==◌, refl, ap, ◌∙◌, append_assoc, arith, All, Some, codes, inl}
use Rattle.std.specs.Fmt.{decimal, digits}
use Rattle.std.proofs.lemmas.List.{length-append}
use Rattle.std.proofs.lemmas.List.Elements.{All-head, All-tail, All-nil, All-cons, All-append, All-weaker}
use Rattle.cable_definitions.specs.declared.place.Place.{Place}
use Rattle.cable_definitions.specs.declared.site.Version.{Version}
use Rattle.cable_definitions.specs.declared.site.Version.TheVariants.{One, Two}
use Rattle.cable_definitions.specs.declared.site.Mode.{Mode}
use Rattle.cable_definitions.specs.declared.site.Mode.TheVariants.{Tree, Strings}
use Rattle.cable_definitions.specs.declared.site.Kind.{Kind}
use Rattle.cable_definitions.specs.declared.site.Kind.TheVariants.{Turbine, Substation, Bend}
use Rattle.cable_definitions.specs.declared.site.CableType.{CableType}
use Rattle.cable_definitions.specs.declared.site.PairRule.{PairRule}
use Rattle.cable_definitions.specs.declared.site.PairRule.TheVariants.{Charge, Closed}
use Rattle.cable_definitions.specs.Naming.{IsName}
use Rattle.cable_definitions.specs.Site.{IsCableType, IsKind, IsPairRule}
use Rattle.cable_definitions.specs.Text.{number, words, line, IsWord, Whole, HasNoNewline, site_line, mode_word, mode_line, type_line, point_words, corner_line, pair_words}
use Rattle.cable_definitions.specs.Items.{RawItem, AMode, APoint, AnObstacle, APair, TheEnd, raw_kind, raw_rule, HasWords, IsItemAt}
use Rattle.site_model.specs.Drafts.{item_of_version, item_of_type, item_of_corner}
use Rattle.site_laws.proofs.Numerals.{Fits, letters_fit, name_fits, natural_spelled, natural_fits, coordinate_spelled, coordinate_fits}

-- the text is a line of short words that say the item
pub record Says (version : Version) (text : List ℕ) (item : RawItem) : Type 0 where
  pub ws : List (List ℕ)
  pub text_is : text ≡ line ws
  pub fit : All Fits ws
  pub few : length ws ≤ 6
  pub says : HasWords version ws item

-- short words make no long line
words_short : (ws : List (List ℕ)) → All Fits ws → length (words ws) ≤ 41 * length ws
words_short [] h = omega arith
words_short (w ∷ []) h = let s = (All-head Fits w [] h).short in omega arith
words_short (w ∷ v ∷ ws) h =
    let s = (All-head Fits w (v ∷ ws) h).short in
    let t = words_short (v ∷ ws) (All-tail Fits w (v ∷ ws) h) in
    omega (arith, length-append w (32 ∷ words (v ∷ ws)))

-- words hold no newline
words_plain : (ws : List (List ℕ)) → All IsWord ws → HasNoNewline (words ws)
words_plain [] h = All-nil (λ x. not (x == 10) ≡ true)
words_plain (w ∷ []) h = (All-head IsWord w [] h).no_newline
words_plain (w ∷ v ∷ ws) h =
    All-append (λ x. not (x == 10) ≡ true) w (32 ∷ words (v ∷ ws)) (All-head IsWord w (v ∷ ws) h).no_newline
    (All-cons (λ x. not (x == 10) ≡ true) 32 (words (v ∷ ws)) refl (words_plain (v ∷ ws) (All-tail IsWord w (v ∷ ws) h)))

-- such a text in front of bytes is the item there
pub item_in_front : (version : Version) (text rest bytes : List ℕ) (item : RawItem) → Says version text item → bytes ≡ text ++ rest → IsItemAt version bytes item rest
item_in_front version text rest bytes item h e =
    let are = All-weaker Fits IsWord (λ w f. f.word) h.ws h.fit in
    record {
      piece = Whole (words h.ws);
      next = (e ∙ ap (λ t. t ++ rest) h.text_is ∙ append_assoc (words h.ws) (10 ∷ []) rest, words_plain h.ws are, let s = words_short h.ws h.fit in let t = h.few in omega arith);
      item_is = inl (record { ws = h.ws; are_words = are; text_is = refl; says = h.says });
    }

-- ---- lists of short words
and_word : (w : List ℕ) (ws : List (List ℕ)) → Fits w → All Fits ws → All Fits (w ∷ ws)
and_word w ws h k = All-cons Fits w ws h k

one_word : (w : List ℕ) → Fits w → All Fits (w ∷ [])
one_word w h = All-cons Fits w [] h (All-nil Fits)

-- the words of a place
place_words : (at : Place) (ws : List (List ℕ)) → All Fits ws → All Fits (number at.x ∷ number at.y ∷ ws)
place_words at ws h = and_word (number at.x) (number at.y ∷ ws) (coordinate_fits at.x at.x_in_range) (and_word (number at.y) ws (coordinate_fits at.y at.y_in_range) h)

-- ---- the lines of a site
-- the line of a version
pub version_says : (d version : Version) → Says d (site_line version) (item_of_version version)
unfolding digits
version_says d One = record {
  ws = codes "site" ∷ codes "1" ∷ [];
  text_is = refl;
  fit = and_word (codes "site") (codes "1" ∷ []) (letters_fit (codes "site") refl (omega arith) (omega arith)) (one_word (codes "1") (natural_fits 1 (omega arith)));
  few = omega arith;
  says = (codes "1", refl, natural_spelled 1 (omega arith));
}
version_says d Two = record {
  ws = codes "site" ∷ codes "2" ∷ [];
  text_is = refl;
  fit = and_word (codes "site") (codes "2" ∷ []) (letters_fit (codes "site") refl (omega arith) (omega arith)) (one_word (codes "2") (natural_fits 2 (omega arith)));
  few = omega arith;
  says = (codes "2", refl, natural_spelled 2 (omega arith));
}

-- the word of a mode
mode_fits : (mode : Mode) → Fits (mode_word mode)
mode_fits Tree = letters_fit (codes "tree") refl (omega arith) (omega arith)
mode_fits Strings = letters_fit (codes "strings") refl (omega arith) (omega arith)

-- the line of a mode
pub mode_says : (d : Version) (mode : Mode) → Says d (mode_line mode) (AMode (Some mode))
mode_says d mode = record {
  ws = codes "mode" ∷ mode_word mode ∷ [];
  text_is = refl;
  fit = and_word (codes "mode") (mode_word mode ∷ []) (letters_fit (codes "mode") refl (omega arith) (omega arith)) (one_word (mode_word mode) (mode_fits mode));
  few = omega arith;
  says = (mode_word mode, refl, refl);
}

-- the line of a type
pub type_says : (version : Version) (t : CableType) → IsCableType version t → Says version (type_line version t) (item_of_type t)
type_says One t h =
    let c : t.capacity < 10 ^ 20 = (let k = h.capacity in omega arith) in
    let p : t.price < 10 ^ 20 = (let k = h.price in omega arith) in
    record {
      ws = codes "type" ∷ decimal t.capacity ∷ decimal t.price ∷ [];
      text_is = refl;
      fit = and_word (codes "type") (decimal t.capacity ∷ decimal t.price ∷ []) (letters_fit (codes "type") refl (omega arith) (omega arith))
          (and_word (decimal t.capacity) (decimal t.price ∷ []) (natural_fits t.capacity c) (one_word (decimal t.price) (natural_fits t.price p)));
      few = omega arith;
      says = (decimal t.capacity, decimal t.price, refl, natural_spelled t.capacity c, natural_spelled t.price p, ap (λ n. Some (pos n)) (h.no_loss refl));
    }
type_says Two t h =
    let c : t.capacity < 10 ^ 20 = (let k = h.capacity in omega arith) in
    let p : t.price < 10 ^ 20 = (let k = h.price in omega arith) in
    let l : t.loss < 10 ^ 20 = (let k = h.loss in omega arith) in
    record {
      ws = codes "type" ∷ decimal t.capacity ∷ decimal t.price ∷ decimal t.loss ∷ [];
      text_is = refl;
      fit = and_word (codes "type") (decimal t.capacity ∷ decimal t.price ∷ decimal t.loss ∷ []) (letters_fit (codes "type") refl (omega arith) (omega arith))
          (and_word (decimal t.capacity) (decimal t.price ∷ decimal t.loss ∷ []) (natural_fits t.capacity c)
          (and_word (decimal t.price) (decimal t.loss ∷ []) (natural_fits t.price p) (one_word (decimal t.loss) (natural_fits t.loss l))));
      few = omega arith;
      says = (decimal t.capacity, decimal t.price, decimal t.loss, refl, natural_spelled t.capacity c, natural_spelled t.price p, natural_spelled t.loss l);
    }

-- the line of a point
pub point_says : (d : Version) (name : List ℕ) (at : Place) (kind : Kind) → IsName name → IsKind kind → Says d (line (point_words name at kind)) (APoint name (Some at.x) (Some at.y) (raw_kind kind))
point_says d name at (Turbine power) n k =
    let p : power < 10 ^ 20 = (let b = k.1 in omega arith) in
    record {
      ws = point_words name at (Turbine power);
      text_is = refl;
      fit = and_word (codes "turbine") (name ∷ number at.x ∷ number at.y ∷ decimal power ∷ []) (letters_fit (codes "turbine") refl (omega arith) (omega arith))
          (and_word name (number at.x ∷ number at.y ∷ decimal power ∷ []) (name_fits name n) (place_words at (decimal power ∷ []) (one_word (decimal power) (natural_fits power p))));
      few = omega arith;
      says = (number at.x, number at.y, decimal power, refl, coordinate_spelled at.x at.x_in_range, coordinate_spelled at.y at.y_in_range, natural_spelled power p);
    }
point_says d name at (Substation feeders power) n k =
    let f : feeders < 10 ^ 20 = (let b = k.0 in omega arith) in
    let p : power < 10 ^ 20 = (let b = k.1 in omega arith) in
    record {
      ws = point_words name at (Substation feeders power);
      text_is = refl;
      fit = and_word (codes "substation") (name ∷ number at.x ∷ number at.y ∷ decimal feeders ∷ decimal power ∷ []) (letters_fit (codes "substation") refl (omega arith) (omega arith))
          (and_word name (number at.x ∷ number at.y ∷ decimal feeders ∷ decimal power ∷ []) (name_fits name n)
          (place_words at (decimal feeders ∷ decimal power ∷ []) (and_word (decimal feeders) (decimal power ∷ []) (natural_fits feeders f) (one_word (decimal power) (natural_fits power p)))));
      few = omega arith;
      says =
          (number at.x, number at.y, decimal feeders, decimal power, refl, coordinate_spelled at.x at.x_in_range, coordinate_spelled at.y at.y_in_range, natural_spelled feeders f, natural_spelled power p);
    }
point_says d name at Bend n k = record {
  ws = point_words name at Bend;
  text_is = refl;
  fit = and_word (codes "bend") (name ∷ number at.x ∷ number at.y ∷ []) (letters_fit (codes "bend") refl (omega arith) (omega arith))
      (and_word name (number at.x ∷ number at.y ∷ []) (name_fits name n) (place_words at [] (All-nil Fits)));
  few = omega arith;
  says = (number at.x, number at.y, refl, coordinate_spelled at.x at.x_in_range, coordinate_spelled at.y at.y_in_range);
}

-- the line of an obstacle
pub obstacle_says : (d : Version) (n : ℕ) → n ≤ 1024 → Says d (line (codes "obstacle" ∷ decimal n ∷ [])) (AnObstacle (Some (pos n)))
obstacle_says d n h = record {
  ws = codes "obstacle" ∷ decimal n ∷ [];
  text_is = refl;
  fit = and_word (codes "obstacle") (decimal n ∷ []) (letters_fit (codes "obstacle") refl (omega arith) (omega arith)) (one_word (decimal n) (natural_fits n (omega arith)));
  few = omega arith;
  says = (decimal n, refl, natural_spelled n (omega arith));
}

-- the line of a corner
pub corner_says : (d : Version) (c : Place) → Says d (corner_line c) (item_of_corner c)
corner_says d c = record {
  ws = codes "corner" ∷ number c.x ∷ number c.y ∷ [];
  text_is = refl;
  fit = and_word (codes "corner") (number c.x ∷ number c.y ∷ []) (letters_fit (codes "corner") refl (omega arith) (omega arith)) (place_words c [] (All-nil Fits));
  few = omega arith;
  says = (number c.x, number c.y, refl, coordinate_spelled c.x c.x_in_range, coordinate_spelled c.y c.y_in_range);
}

-- the line of a pair rule
pub pair_says : (d : Version) (a b : List ℕ) (rule : PairRule) → IsName a → IsName b → IsPairRule rule → Says d (line (pair_words a b rule)) (APair a b (raw_rule rule))
pair_says d a b (Charge amount) n m k =
    let l : amount < 10 ^ 20 = omega (arith, k) in
    record {
      ws = pair_words a b (Charge amount);
      text_is = refl;
      fit = and_word (codes "charge") (a ∷ b ∷ decimal amount ∷ []) (letters_fit (codes "charge") refl (omega arith) (omega arith))
          (and_word a (b ∷ decimal amount ∷ []) (name_fits a n) (and_word b (decimal amount ∷ []) (name_fits b m) (one_word (decimal amount) (natural_fits amount l))));
      few = omega arith;
      says = (decimal amount, refl, natural_spelled amount l);
    }
pair_says d a b Closed n m k = record {
  ws = pair_words a b Closed;
  text_is = refl;
  fit = and_word (codes "closed") (a ∷ b ∷ []) (letters_fit (codes "closed") refl (omega arith) (omega arith)) (and_word a (b ∷ []) (name_fits a n) (one_word b (name_fits b m)));
  few = omega arith;
  says = refl;
}

-- the line of the end
pub end_says : (d : Version) → Says d (line (codes "end" ∷ codes "site" ∷ [])) TheEnd
end_says d = record {
  ws = codes "end" ∷ codes "site" ∷ [];
  text_is = refl;
  fit = and_word (codes "end") (codes "site" ∷ []) (letters_fit (codes "end") refl (omega arith) (omega arith)) (one_word (codes "site") (letters_fit (codes "site") refl (omega arith) (omega arith)));
  few = omega arith;
  says = refl;
}
