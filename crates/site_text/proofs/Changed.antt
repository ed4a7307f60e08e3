-- Items with their numbers changed: as the builder is told them, and as the code holds them.
use Rattle.std.proofs.Common.{◌≡◌, ◌≢◌, ◌↔◌, ℕ, ◌-◌, ◌^◌, ◌<◌, ◌≤◌, ◌⊎◌, inl, inr, ℤ, pos, negsuc, ◌≤ℤ◌, List, [], ◌∷◌, map, Bool, true, false, refl, sym, ap, subst, arith, All, Option, Some, None, Result, Ok, Err, IsTrue, to_z, of_z}
use Rattle.std.specs.Prelude.{◌<ℤ◌, IsSome, OnOk}
use Rattle.std.specs.Int.{w128}
use Rattle.std.proofs.lemmas.Int.{ints, by_lt_z}
use Rattle.std.proofs.lemmas.List.Elements.{All-head, All-tail, All-nil, All-cons}
use Rattle.cable_definitions.specs.declared.site.Version.{Version}
use Rattle.cable_definitions.specs.declared.site.Version.TheVariants.{One, Two}
use Rattle.cable_definitions.specs.declared.site.SiteCode.{SiteCode}
use Rattle.cable_definitions.specs.declared.site.SiteCode.TheVariants.{TooLong, Form, Shape, Range, BadName, SameName, SamePlace, UnknownName, SamePair, InObstacle, TooMany}
use Rattle.cable_definitions.specs.Items.{ATurbine, ASubstation, ABend, ACharge, AClosing, RawItem, AVersion, AMode, AType, APoint, AnObstacle, ACorner, APair, TheEnd, Misshapen, Stray, Unended, Missing, Overlong, Draft, Field, within, fields_of, is_readable, may_stand, IsWithin, Breaks, code_number, IsFirstCode, IsGood, Adds, empty_draft}
use Rattle.cable_text.specs.Number.{LiesOutside}
use Rattle.site_model.specs.declared.fault.BuildFault.{BuildFault}
use Rattle.site_model.specs.declared.fault.BuildFault.TheVariants.{Refused, Memory}
use Rattle.site_model.specs.Building.{type_item}
use Rattle.site_model.proofs.Codes.{IsFirstCode-at, KeepsBelow-past, KeepsBelow-line, KeepsBelow-shaped}
use Rattle.site_model.proofs.Ranges.{passed}
use Rattle.site_text.specs.declared.add.Progress.{Progress}
use Rattle.site_text.specs.Item.{held_in_128, held_number, held_item, map_item}
use Rattle.site_text.specs.Adding.{told, loss_for, unspelled, answer_of, Answers}
use Rattle.site_text.proofs.Held.{held_same, held_beyond}

-- a field with its number changed so
abbrev pub map_field : (Option ℤ → Option ℤ) → Field → Field
map_field f x = within (f x.value) x.least x.most

-- the word of the field spells a number
abbrev pub IsSpelled : Field → Type 0
IsSpelled x = IsSome x.value

-- ---- what a change of numbers leaves as it is
may_same : (f : Option ℤ → Option ℤ) (d : Draft) (item : RawItem) → may_stand d (map_item f item) ≡ may_stand d item
may_same f d (AVersion v) = refl
may_same f d (AMode m) = refl
may_same f d (AType c p l) = refl
may_same f d (APoint n x y k) = refl
may_same f d (AnObstacle k) = refl
may_same f d (ACorner x y) = refl
may_same f d (APair a b r) = refl
may_same f d TheEnd = refl
may_same f d Misshapen = refl
may_same f d Stray = refl
may_same f d Unended = refl
may_same f d Missing = refl
may_same f d Overlong = refl

readable_same : (f : Option ℤ → Option ℤ) (item : RawItem) → is_readable (map_item f item) ≡ is_readable item
readable_same f (AVersion v) = refl
readable_same f (AMode m) = refl
readable_same f (AType c p l) = refl
readable_same f (APoint n x y k) = refl
readable_same f (AnObstacle k) = refl
readable_same f (ACorner x y) = refl
readable_same f (APair a b r) = refl
readable_same f TheEnd = refl
readable_same f Misshapen = refl
readable_same f Stray = refl
readable_same f Unended = refl
readable_same f Missing = refl
readable_same f Overlong = refl

long_same : (f : Option ℤ → Option ℤ) (item : RawItem) → map_item f item ≡ Overlong → item ≡ Overlong
long_same f (AVersion v) e = absurd (cc)
long_same f (AMode m) e = absurd (cc)
long_same f (AType c p l) e = absurd (cc)
long_same f (APoint n x y k) e = absurd (cc)
long_same f (AnObstacle k) e = absurd (cc)
long_same f (ACorner x y) e = absurd (cc)
long_same f (APair a b r) e = absurd (cc)
long_same f TheEnd e = absurd (cc)
long_same f Misshapen e = absurd (cc)
long_same f Stray e = absurd (cc)
long_same f Unended e = absurd (cc)
long_same f Missing e = absurd (cc)
long_same f Overlong e = refl

fields_map : (f : Option ℤ → Option ℤ) (item : RawItem) → fields_of (map_item f item) ≡ map (map_field f) (fields_of item)
fields_map f (AVersion v) = refl
fields_map f (AMode m) = refl
fields_map f (AType c p l) = refl
fields_map f (APoint n x y (ATurbine w)) = refl
fields_map f (APoint n x y (ASubstation v w)) = refl
fields_map f (APoint n x y ABend) = refl
fields_map f (AnObstacle k) = refl
fields_map f (ACorner x y) = refl
fields_map f (APair a b (ACharge w)) = refl
fields_map f (APair a b AClosing) = refl
fields_map f TheEnd = refl
fields_map f Misshapen = refl
fields_map f Stray = refl
fields_map f Unended = refl
fields_map f Missing = refl
fields_map f Overlong = refl

-- the first fields of two lists that are one
first_value : (x y : Field) (xs ys : List Field) → x ∷ xs ≡ y ∷ ys → x.value ≡ y.value
first_value x y xs ys e = let h : x ≡ y = cc in ap (λ (g : Field). g.value) h

-- and the rest of them
tail_same : {x y : Field} {xs ys : List Field} → x ∷ xs ≡ y ∷ ys → xs ≡ ys
tail_same e = cc

-- an item whose fields stay as they are stays as it is
same_item : (f : Option ℤ → Option ℤ) (item : RawItem) → map (map_field f) (fields_of item) ≡ fields_of item → map_item f item ≡ item
same_item f (AVersion v) e = ap AVersion (first_value _ _ _ _ e)
same_item f (AMode m) e = refl
same_item f (AType c p l) e =
    let a : f c ≡ c = first_value _ _ _ _ e in
    let e1 = tail_same e in
    let b : f p ≡ p = first_value _ _ _ _ e1 in
    let e2 = tail_same e1 in
    let g : f l ≡ l = first_value _ _ _ _ e2 in
    cc
same_item f (APoint n x y (ATurbine w)) e =
    let a : f x ≡ x = first_value _ _ _ _ e in
    let e1 = tail_same e in
    let b : f y ≡ y = first_value _ _ _ _ e1 in
    let e2 = tail_same e1 in
    let g : f w ≡ w = first_value _ _ _ _ e2 in
    cc
same_item f (APoint n x y (ASubstation v w)) e =
    let a : f x ≡ x = first_value _ _ _ _ e in
    let e1 = tail_same e in
    let b : f y ≡ y = first_value _ _ _ _ e1 in
    let e2 = tail_same e1 in
    let g : f v ≡ v = first_value _ _ _ _ e2 in
    let e3 = tail_same e2 in
    let h : f w ≡ w = first_value _ _ _ _ e3 in
    cc
same_item f (APoint n x y ABend) e =
    let a : f x ≡ x = first_value _ _ _ _ e in
    let e1 = tail_same e in
    let b : f y ≡ y = first_value _ _ _ _ e1 in
    cc
same_item f (AnObstacle k) e = ap AnObstacle (first_value _ _ _ _ e)
same_item f (ACorner x y) e =
    let a : f x ≡ x = first_value _ _ _ _ e in
    let e1 = tail_same e in
    let b : f y ≡ y = first_value _ _ _ _ e1 in
    cc
same_item f (APair a b (ACharge w)) e = ap (λ v. APair a b (ACharge v)) (first_value _ _ _ _ e)
same_item f (APair a b AClosing) e = refl
same_item f TheEnd e = refl
same_item f Misshapen e = refl
same_item f Stray e = refl
same_item f Unended e = refl
same_item f Missing e = refl
same_item f Overlong e = refl

-- ---- ranges that 128 bits hold with room above
record HasRoom (x : Field) : Type 0 where
  least : negsuc (2 ^ 127 - 1) ≤ℤ x.least
  most : x.most <ℤ pos (2 ^ 127 - 1)

coordinate_room : (v : Option ℤ) → HasRoom (within v (negsuc 999999) (pos 1000000))
coordinate_room v = record { least = omega (arith, ints); most = omega (arith, ints) }

count_room : (v : Option ℤ) (least most : ℕ) → most < 2 ^ 127 - 1 → HasRoom (within v (pos least) (pos most))
count_room v least most h = record { least = omega (arith, ints); most = omega (arith, ints) }

one_room : (x : Field) → HasRoom x → All HasRoom (x ∷ [])
one_room x h = All-cons HasRoom x [] h (All-nil HasRoom)

place_room : (x y : Option ℤ) (fs : List Field) → All HasRoom fs → All HasRoom (within x (negsuc 999999) (pos 1000000) ∷ within y (negsuc 999999) (pos 1000000) ∷ fs)
place_room x y fs h =
    let u = within x (negsuc 999999) (pos 1000000) in
    let v = within y (negsuc 999999) (pos 1000000) in
    All-cons HasRoom u (v ∷ fs) (coordinate_room x) (All-cons HasRoom v fs (coordinate_room y) h)

have_room : (item : RawItem) → All HasRoom (fields_of item)
have_room (AVersion v) = one_room (within v (pos 1) (pos 1)) (count_room v 1 1 (omega arith))
have_room (AMode m) = All-nil HasRoom
have_room (AType c p l) =
    let u = within c (pos 1) (pos 10000) in
    let v = within p (pos 0) (pos 1000000) in
    let w = within l (pos 0) (pos 100) in
    All-cons HasRoom u (v ∷ w ∷ []) (count_room c 1 10000 (omega arith)) (All-cons HasRoom v (w ∷ []) (count_room p 0 1000000 (omega arith)) (one_room w (count_room l 0 100 (omega arith))))
have_room (APoint n x y (ATurbine w)) = let f = within w (pos 1) (pos 1000) in place_room x y (f ∷ []) (one_room f (count_room w 1 1000 (omega arith)))
have_room (APoint n x y (ASubstation v w)) =
    let f = within v (pos 0) (pos 256) in
    let g = within w (pos 0) (pos 300000) in
    place_room x y (f ∷ g ∷ []) (All-cons HasRoom f (g ∷ []) (count_room v 0 256 (omega arith)) (one_room g (count_room w 0 300000 (omega arith))))
have_room (APoint n x y ABend) = place_room x y [] (All-nil HasRoom)
have_room (AnObstacle k) = one_room (within k (pos 3) (pos 1024)) (count_room k 3 1024 (omega arith))
have_room (ACorner x y) = place_room x y [] (All-nil HasRoom)
have_room (APair a b (ACharge w)) = one_room (within w (pos 0) (pos 1000000000000)) (count_room w 0 1000000000000 (omega arith))
have_room (APair a b AClosing) = All-nil HasRoom
have_room TheEnd = All-nil HasRoom
have_room Misshapen = All-nil HasRoom
have_room Stray = All-nil HasRoom
have_room Unended = All-nil HasRoom
have_room Missing = All-nil HasRoom
have_room Overlong = All-nil HasRoom

-- ---- what the builder is told
-- a number as the builder is told it
abbrev pub filled : Option ℤ → Option ℤ
filled v = Some (told v)

spelled_value : (v : Option ℤ) → IsSome v → filled v ≡ v
spelled_value None h = absurd (cc)
spelled_value (Some z) h = refl

spelled_same : (fs : List Field) → All IsSpelled fs → map (map_field filled) fs ≡ fs
spelled_same [] h = refl
spelled_same (x ∷ fs) h =
    let v = spelled_value x.value (All-head IsSpelled x fs h) in
    let here : map_field filled x ≡ x = ap (λ w. within w x.least x.most) v in
    let there = spelled_same fs (All-tail IsSpelled x fs h) in
    cc

within_value : (v : Option ℤ) (least most : ℤ) → most <ℤ pos (2 ^ 127 - 1) → IsWithin (within (filled v) least most) → IsSome v
within_value None least most h w = let k = (w (pos (2 ^ 127 - 1)) refl).1 in absurd (omega (arith, ints))
within_value (Some z) least most h w = refl

within_spelled : (fs : List Field) → All HasRoom fs → All IsWithin (map (map_field filled) fs) → All IsSpelled fs
within_spelled [] h w = All-nil IsSpelled
within_spelled (x ∷ fs) h w =
    All-cons IsSpelled x fs (within_value x.value x.least x.most (All-head HasRoom x fs h).most (All-head IsWithin (map_field filled x) (map (map_field filled) fs) w))
    (within_spelled fs (All-tail HasRoom x fs h) (All-tail IsWithin (map_field filled x) (map (map_field filled) fs) w))

are_filled : (fs : List Field) → All IsSpelled (map (map_field filled) fs)
are_filled [] = All-nil IsSpelled
are_filled (x ∷ fs) = All-cons IsSpelled (map_field filled x) (map (map_field filled) fs) refl (are_filled fs)

-- an item with all numbers spelled is told as it is
pub told_same : (item : RawItem) → All IsSpelled (fields_of item) → map_item filled item ≡ item
told_same item h = same_item filled item (spelled_same (fields_of item) h)

-- an item with a word that spells no number is told with a number out of range
told_outside : (item : RawItem) → ¬ (All IsSpelled (fields_of item)) → ¬ (All IsWithin (fields_of (map_item filled item)))
told_outside item h w = h (within_spelled (fields_of item) (have_room item) (subst (All IsWithin) (fields_map filled item) w))

-- an item with such a word is no mode and no misshapen one
some_field : (item : RawItem) → ¬ (All IsSpelled (fields_of item)) → IsTrue (is_readable item)
some_field (AVersion v) h = refl
some_field (AMode m) h = absurd (h (All-nil IsSpelled))
some_field (AType c p l) h = refl
some_field (APoint n x y k) h = refl
some_field (AnObstacle k) h = refl
some_field (ACorner x y) h = refl
some_field (APair a b r) h = refl
some_field TheEnd h = refl
some_field Misshapen h = absurd (h (All-nil IsSpelled))
some_field Stray h = refl
some_field Unended h = refl
some_field Missing h = refl
some_field Overlong h = refl

not_long : (item : RawItem) → ¬ (All IsSpelled (fields_of item)) → ¬ (item ≡ Overlong)
not_long item h e = h (subst (λ (i : RawItem). All IsSpelled (fields_of i)) (sym e) (All-nil IsSpelled))

-- an item that may not stand, and is no line that is too long
pub form_first : (d : Draft) (item : RawItem) → ¬ (item ≡ Overlong) → ¬ (IsTrue (may_stand d item)) → IsFirstCode d item Form
form_first d item short astray = IsFirstCode-at d item Form (KeepsBelow-line d item short) astray

-- such an item is refused by its form, or by its shape where the builder finds a range
unspelled_first : (d : Draft) (item : RawItem) (code : SiteCode) → ¬ (All IsSpelled (fields_of item)) → IsFirstCode d (map_item filled item) code → IsFirstCode d item (unspelled code)
unspelled_first d item TooLong h f = absurd (not_long item h (long_same filled item f.broken))
unspelled_first d item Form h f = form_first d item (not_long item h) (λ t. f.broken (subst IsTrue (sym (may_same filled d item)) t))
unspelled_first d item Shape h f =
    absurd (f.broken (subst IsTrue (sym (readable_same filled item)) (some_field item h), subst (All IsSpelled) (sym (fields_map filled item)) (are_filled (fields_of item))))
unspelled_first d item Range h f =
    let stands = KeepsBelow-past d item Form (KeepsBelow-line d item (not_long item h)) (λ astray. f.least Form (omega arith) (λ t. astray (subst IsTrue (may_same filled d item) t))) in
    IsFirstCode-at d item Shape stands (λ p. h p.1)
unspelled_first d item BadName h f = absurd (f.least Range (omega arith) (told_outside item h))
unspelled_first d item SameName h f = absurd (f.least Range (omega arith) (told_outside item h))
unspelled_first d item SamePlace h f = absurd (f.least Range (omega arith) (told_outside item h))
unspelled_first d item UnknownName h f = absurd (f.least Range (omega arith) (told_outside item h))
unspelled_first d item SamePair h f = absurd (f.least Range (omega arith) (told_outside item h))
unspelled_first d item InObstacle h f = absurd (f.least Range (omega arith) (told_outside item h))
unspelled_first d item TooMany h f = absurd (f.least Range (omega arith) (told_outside item h))

-- the words of the fields are spelled where the words are
spelled_words : (fs : List Field) (b : Bool) → (IsTrue b ↔ All IsSome (map (λ (x : Field). x.value) fs)) → (IsTrue b ↔ All IsSpelled fs)
spelled_words fs b h = (λ t. to fs (h.0 t), λ k. h.1 (from fs k))
  where
    to : (gs : List Field) → All IsSome (map (λ (x : Field). x.value) gs) → All IsSpelled gs
    to [] k = All-nil IsSpelled
    to (x ∷ gs) k = All-cons IsSpelled x gs (All-head IsSome x.value (map (λ (y : Field). y.value) gs) k) (to gs (All-tail IsSome x.value (map (λ (y : Field). y.value) gs) k))

    from : (gs : List Field) → All IsSpelled gs → All IsSome (map (λ (x : Field). x.value) gs)
    from [] k = All-nil IsSome
    from (x ∷ gs) k = All-cons IsSome x.value (map (λ (y : Field). y.value) gs) (All-head IsSpelled x gs k) (from gs (All-tail IsSpelled x gs k))

-- a cable type as the builder is told it
pub told_type : (v w : Version) (c p l t : Option ℤ) → v ≡ w → t ≡ loss_for v l → (w ≡ One → l ≡ Some (pos 0)) → type_item w (told c) (told p) t ≡ map_item filled (AType c p l)
told_type v w c p l t same is none = let P : Version → Type 0 = λ u. t ≡ loss_for u l → type_item w (told c) (told p) t ≡ map_item filled (AType c p l) in subst P (sym same) (by_version w none) is
  where
    by_version : (u : Version) → (u ≡ One → l ≡ Some (pos 0)) → t ≡ loss_for u l → type_item u (told c) (told p) t ≡ map_item filled (AType c p l)
    by_version One zero e = rw (e, zero refl) refl
    by_version Two zero e = rw e refl

-- a number as the builder is told it, within 128 bits
pub record IsTold (z : ℤ) (n : Option ℤ) : Type 0 where
  pub value : z ≡ told n
  pub least : negsuc (2 ^ 127 - 1) ≤ℤ z
  pub most : z ≤ℤ pos (2 ^ 127 - 1)

-- a fact of a number that was passed to the builder
pub told_number : (P : ℤ → Type 0) (z : ℤ) (n : Option ℤ) → IsTold z n → P (to_z w128 (of_z w128 z)) → P (told n)
told_number P z n t h = subst P t.value (passed P z (omega (arith, ints)) h)

-- the same of two numbers
pub told_two : (P : ℤ → ℤ → Type 0) (y z : ℤ) (m n : Option ℤ) → IsTold y m → IsTold z n → P (to_z w128 (of_z w128 y)) (to_z w128 (of_z w128 z)) → P (told m) (told n)
told_two P y z m n t u h = told_number (λ v. P v (told n)) y m t (told_number (λ v. P (to_z w128 (of_z w128 y)) v) z n u h)

-- ---- what is answered of an item that the builder was told
-- what the builder answers of an item
pub record BuilderAnswers (o : Result (Unit {0}) BuildFault) (d : Draft) (item : RawItem) (e : Draft) : Type 0 where
  pub good : OnOk o (IsGood d item)
  pub adds : OnOk o (Adds d item e)
  pub refused : (code : SiteCode) → (o ≡ Err (Refused code)) ↔ IsFirstCode d item code

-- an item that is refused by its first code
pub refused_by : (d : Draft) (item : RawItem) (e : Draft) (c : SiteCode) → IsFirstCode d item c → Answers (Err (Refused c)) d item e
refused_by d item e c f = record { progress = tt; takes = tt; refused = λ code k. subst (IsFirstCode d item) (let same : c ≡ code = cc in same) f }

answered_by : (o : Result (Unit {0}) BuildFault) (b : Bool) (d e : Draft) (item : RawItem) → (IsTrue b ↔ All IsSpelled (fields_of item)) → BuilderAnswers o d (map_item filled item) e → Answers (answer_of o b) d item e
answered_by (Ok u) true d e item spelled h =
    let same = told_same item (spelled.0 refl) in
    record {
      progress = refl;
      takes = record { good = subst (IsGood d) same h.good; adds = subst (λ (i : RawItem). Adds d i e) same h.adds };
      refused = λ code k. absurd (cc);
    }
answered_by (Ok u) false d e item spelled h = absurd (h.good Range (told_outside item (λ k. let t = spelled.1 k in cc)))
answered_by (Err Memory) b d e item spelled h = record { progress = tt; takes = tt; refused = λ code k. absurd (cc) }
answered_by (Err (Refused c)) true d e item spelled h = refused_by d item e c (subst (λ (i : RawItem). IsFirstCode d i c) (told_same item (spelled.0 refl)) ((h.refused c).0 refl))
answered_by (Err (Refused c)) false d e item spelled h = refused_by d item e (unspelled c) (unspelled_first d item c (λ k. let t = spelled.1 k in cc) ((h.refused c).0 refl))

-- what is answered of an item, by what the builder answers of it as it was told
pub answered : (o : Result (Unit {0}) BuildFault) (b : Bool) (r : Result Progress BuildFault) (d e : Draft) (item : RawItem) → r ≡ answer_of o b → (IsTrue b ↔ All IsSome (map (λ (x : Field). x.value) (fields_of item))) → BuilderAnswers o d (map_item filled item) e → Answers r d item e
answered o b r d e item is spelled h = let P : Result Progress BuildFault → Type 0 = λ q. Answers q d item e in subst P (sym is) (answered_by o b d e item (spelled_words (fields_of item) b spelled) h)

-- ---- what the code holds of a line
held_value : (v : Option ℤ) (least most : ℤ) → HasRoom (within v least most) → (held_number v ≡ v) ⊎ ((¬ (IsWithin (within (held_number v) least most))) × (¬ (IsWithin (within v least most))))
held_value None least most room = inl refl
held_value (Some z) least most room =
    by_lt_z z (negsuc (2 ^ 127 - 1)) (λ below. inr (out (inl below)))
    (λ not_below. by_lt_z (pos (2 ^ 127 - 1)) z (λ above. inr (out (inr above))) (λ not_above. inl (ap Some (held_same z not_below not_above))))
  where
    out : LiesOutside (negsuc (2 ^ 127 - 1)) (pos (2 ^ 127 - 1)) z → (¬ (IsWithin (within (held_number (Some z)) least most))) × (¬ (IsWithin (within (Some z) least most)))
    out o = (
      λ w. let k = (w (held_in_128 z) refl).1 in let e = held_beyond z o in let low = room.most in absurd (omega (arith, ints)),
      λ w. let k = w z refl in let low = room.least in let high = room.most in elim o [ inl a ↦ absurd (omega (arith, ints)) | inr a ↦ absurd (omega (arith, ints)) ],
    )

held_fields : (fs : List Field) → All HasRoom fs → (map (map_field held_number) fs ≡ fs) ⊎ ((¬ (All IsWithin (map (map_field held_number) fs))) × (¬ (All IsWithin fs)))
held_fields [] h = inl refl
held_fields (x ∷ fs) h =
    elim (held_value x.value x.least x.most (All-head HasRoom x fs h)) [
      | inr o ↦ inr (λ w. o.0 (All-head IsWithin (map_field held_number x) (map (map_field held_number) fs) w), λ w. o.1 (All-head IsWithin x fs w))
      | inl e ↦
          elim (held_fields fs (All-tail HasRoom x fs h)) [
            | inr o ↦ inr (λ w. o.0 (All-tail IsWithin (map_field held_number x) (map (map_field held_number) fs) w), λ w. o.1 (All-tail IsWithin x fs w))
            | inl k ↦ inl (let here : map_field held_number x ≡ x = ap (λ w. within w x.least x.most) e in cc)
          ]
    ]

-- an item is held as it is, or it is out of range and so is what is held of it
held_or_outside : (item : RawItem) → (held_item item ≡ item) ⊎ ((¬ (All IsWithin (fields_of (held_item item)))) × (¬ (All IsWithin (fields_of item))))
held_or_outside item =
    elim (held_fields (fields_of item) (have_room item)) [
      | inl e ↦ inl (same_item held_number item e)
      | inr o ↦ inr (λ w. o.0 (subst (All IsWithin) (fields_map held_number item) w), o.1)
    ]

-- a good item is held as it is
pub held_good : (d : Draft) (item : RawItem) → IsGood d (held_item item) → held_item item ≡ item
held_good d item good = elim (held_or_outside item) [ inl e ↦ e | inr o ↦ absurd (good Range o.0) ]

-- the numbers that are held are spelled where the words are
spelled_held : (fs : List Field) → (All IsSpelled fs → All IsSpelled (map (map_field held_number) fs)) × (All IsSpelled (map (map_field held_number) fs) → All IsSpelled fs)
spelled_held [] = (λ h. All-nil IsSpelled, λ h. All-nil IsSpelled)
spelled_held (x ∷ fs) = (
  λ h. All-cons IsSpelled (map_field held_number x) (map (map_field held_number) fs) (to x.value (All-head IsSpelled x fs h)) ((spelled_held fs).0 (All-tail IsSpelled x fs h)),
  λ h. All-cons IsSpelled x fs (from x.value (All-head IsSpelled (map_field held_number x) (map (map_field held_number) fs) h)) ((spelled_held fs).1 (All-tail IsSpelled (map_field held_number x) (map (map_field held_number) fs) h)),
)
  where
    to : (v : Option ℤ) → IsSome v → IsSome (held_number v)
    to None h = h
    to (Some z) h = refl

    from : (v : Option ℤ) → IsSome (held_number v) → IsSome v
    from None h = h
    from (Some z) h = refl

-- up to the code of ranges, what is held breaks the rules that the item breaks
module _ (d : Draft) (item : RawItem) (held_out : ¬ (All IsWithin (fields_of (held_item item)))) (out : ¬ (All IsWithin (fields_of item))) where
  held_breaks : (code : SiteCode) → code_number code ≤ 4 → Breaks d item code → Breaks d (held_item item) code
  held_breaks TooLong l b = ap held_item b
  held_breaks Form l b = λ t. b (subst IsTrue (may_same held_number d item) t)
  held_breaks Shape l b = λ p. b (subst IsTrue (readable_same held_number item) p.0, (spelled_held (fields_of item)).1 (subst (All IsSpelled) (fields_map held_number item) p.1))
  held_breaks Range l b = held_out
  held_breaks BadName l b = absurd (omega arith)
  held_breaks SameName l b = absurd (omega arith)
  held_breaks SamePlace l b = absurd (omega arith)
  held_breaks UnknownName l b = absurd (omega arith)
  held_breaks SamePair l b = absurd (omega arith)
  held_breaks InObstacle l b = absurd (omega arith)
  held_breaks TooMany l b = absurd (omega arith)

  item_breaks : (code : SiteCode) → code_number code ≤ 4 → Breaks d (held_item item) code → Breaks d item code
  item_breaks TooLong l b = long_same held_number item b
  item_breaks Form l b = λ t. b (subst IsTrue (sym (may_same held_number d item)) t)
  item_breaks Shape l b = λ p. b (subst IsTrue (sym (readable_same held_number item)) p.0, subst (All IsSpelled) (sym (fields_map held_number item)) ((spelled_held (fields_of item)).0 p.1))
  item_breaks Range l b = out
  item_breaks BadName l b = absurd (omega arith)
  item_breaks SameName l b = absurd (omega arith)
  item_breaks SamePlace l b = absurd (omega arith)
  item_breaks UnknownName l b = absurd (omega arith)
  item_breaks SamePair l b = absurd (omega arith)
  item_breaks InObstacle l b = absurd (omega arith)
  item_breaks TooMany l b = absurd (omega arith)

  outside_first : (code : SiteCode) → IsFirstCode d (held_item item) code → IsFirstCode d item code
  outside_first code f =
      elim (code_within code f) [
        | inl low ↦ record { broken = item_breaks code low f.broken; least = λ other l b. f.least other l (held_breaks other (omega arith) b) }
        | inr high ↦ absurd (f.least Range (omega arith) held_out)
      ]
    where
      code_within : (c : SiteCode) → IsFirstCode d (held_item item) c → (code_number c ≤ 4) ⊎ (4 < code_number c)
      code_within TooLong f = inl (omega arith)
      code_within Form f = inl (omega arith)
      code_within Shape f = inl (omega arith)
      code_within Range f = inl (omega arith)
      code_within BadName f = inr (omega arith)
      code_within SameName f = inr (omega arith)
      code_within SamePlace f = inr (omega arith)
      code_within UnknownName f = inr (omega arith)
      code_within SamePair f = inr (omega arith)
      code_within InObstacle f = inr (omega arith)
      code_within TooMany f = inr (omega arith)

-- the first code of what is held is that of the item
pub held_first : (d : Draft) (item : RawItem) (code : SiteCode) → IsFirstCode d (held_item item) code → IsFirstCode d item code
held_first d item code f =
    elim (held_or_outside item) [
      | inl e ↦ subst (λ (i : RawItem). IsFirstCode d i code) e f
      | inr o ↦ outside_first d item o.0 o.1 code f
    ]

-- ---- the version
-- a version that isn't read
version_first : (n : ℤ) → n ≢ pos 1 → IsFirstCode empty_draft (AVersion (Some n)) Range
version_first n other =
    let f = within (Some n) (pos 1) (pos 1) in
    IsFirstCode-at empty_draft (AVersion (Some n)) Range (KeepsBelow-shaped empty_draft (AVersion (Some n)) (λ e. cc) refl refl (All-cons IsSpelled f [] refl (All-nil IsSpelled)))
    (λ all. let k = (All-head IsWithin f [] all) n refl in other (omega (arith, ints)))

-- a line of the version whose number is another one, or none
pub version_range : (raw : RawItem) (n : ℤ) → AVersion (Some n) ≡ held_item raw → n ≢ pos 1 → IsFirstCode empty_draft raw Range
version_range raw n e other = held_first empty_draft raw Range (subst (λ (i : RawItem). IsFirstCode empty_draft i Range) e (version_first n other))

pub version_shape : (raw : RawItem) → AVersion None ≡ held_item raw → IsFirstCode empty_draft raw Shape
version_shape raw e =
    let shape = unspelled_first empty_draft (AVersion None) Range (λ h. let k = All-head IsSpelled (within None (pos 1) (pos 1)) [] h in cc) (version_first (pos (2 ^ 127 - 1)) (λ k. omega (arith, ints))) in
    held_first empty_draft raw Shape (subst (λ (i : RawItem). IsFirstCode empty_draft i Shape) e shape)
