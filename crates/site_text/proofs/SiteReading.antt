-- A run of good items from the beginning to the end reads the lines of the site that it leads to.
use Rattle.std.proofs.Common.{◌≡◌, ◌≢◌, ℕ, ◌≤◌, ◌⊎◌, inl, inr, ℤ, pos, List, [], ◌∷◌, ◌++◌, map, true, ◌==◌, refl, sym, ap, ◌∙◌, subst, append_assoc, arith, Option, Some, codes}
use Rattle.std.specs.Prelude.{nat_le}
use Rattle.std.specs.List.{concat}
use Rattle.std.specs.Fmt.{decimal}
use Rattle.std.proofs.lemmas.Bool.{eqb-true, leb-true, and_parts}
use Rattle.cable_definitions.specs.declared.place.Place.{Place}
use Rattle.cable_definitions.specs.declared.site.Version.{Version}
use Rattle.cable_definitions.specs.declared.site.Version.TheVariants.{One, Two}
use Rattle.cable_definitions.specs.declared.site.Mode.{Mode}
use Rattle.cable_definitions.specs.declared.site.Kind.{Kind}
use Rattle.cable_definitions.specs.declared.site.Kind.TheVariants.{Turbine, Substation, Bend}
use Rattle.cable_definitions.specs.declared.site.CableType.{CableType}
use Rattle.cable_definitions.specs.declared.site.Pair.{Pair}
use Rattle.cable_definitions.specs.declared.site.PairRule.{PairRule}
use Rattle.cable_definitions.specs.declared.site.PairRule.TheVariants.{Charge, Closed}
use Rattle.cable_definitions.specs.Numeral.{spelling}
use Rattle.cable_definitions.specs.Site.{Site, IsCableType, IsKind, IsPair, IsPairRule, IsValid}
use Rattle.cable_definitions.specs.Text.{line, words, site_line, mode_line, mode_word, obstacle_lines, site_lines, Piece, Whole, LongLine, CutLine, NoLine, IsNext, type_line, point_line, point_words, corner_line, pair_line, name_of, Reads}
use Rattle.cable_definitions.specs.Items.{Draft, RawItem, RawRule, AVersion, AMode, AType, APoint, AnObstacle, ACorner, APair, TheEnd, Misshapen, Stray, Unended, Missing, Overlong, raw_kind, raw_rule, is_settled, NamesMode, HasTypeWords, HasPointWords, HasPairWords, HasWords, IsGood, Adds, IsItemOf, IsItemAt, ReadsItems, empty_draft}
use Rattle.cable_definitions.specs.Document.{IsSiteAtFront}
use Rattle.site_text.proofs.Numbers.{small_coordinate}
use Rattle.site_model.specs.Drafts.{IsDraft, FitsVersion, item_of_type, item_of_point}
use Rattle.site_model.proofs.Drafts.{IsDraft-adds, IsValid-ended, IsDraft-empty}
use Rattle.site_text.proofs.DraftText.{text_so_far, text_behind}
use Rattle.site_text.proofs.DraftSteps.{body_closed, tidy_begin, Tidy, Step, corner_stage, spelled_count, spelled_coordinate, stands, settled, some_stage, version_text, version_word, some_corner, last_of, version_step, mode_step, type_step, point_step, obstacle_step, corner_step, pair_step}

-- the words of a type are its line
pub type_words_line : (v : Version) (ws : List (List ℕ)) (t : CableType) → IsCableType v t → HasTypeWords v ws (Some (pos t.capacity)) (Some (pos t.price)) (Some (pos t.loss)) → line ws ≡ type_line v t
type_words_line One ws t k h =
    let c = spelled_count h.0 t.capacity (let b = k.capacity in omega arith) h.3 in
    let p = spelled_count h.1 t.price (let b = k.price in omega arith) h.4 in
    rw (h.2, c, p) refl
type_words_line Two ws t k h =
    let c = spelled_count h.0 t.capacity (let b = k.capacity in omega arith) h.4 in
    let p = spelled_count h.1 t.price (let b = k.price in omega arith) h.5 in
    let l = spelled_count h.2 t.loss (let b = k.loss in omega arith) h.6 in
    rw (h.3, c, p, l) refl

-- the words of a point are its line
point_words_line : (ws : List (List ℕ)) (n : List ℕ) (a : Place) (k : Kind) → IsKind k → HasPointWords ws n (Some a.x) (Some a.y) (raw_kind k) → line ws ≡ line (point_words n a k)
point_words_line ws n a (Turbine p) k h =
    let x = spelled_coordinate h.0 a.x (small_coordinate a.x a.x_in_range) h.4 in
    let y = spelled_coordinate h.1 a.y (small_coordinate a.y a.y_in_range) h.5 in
    let w = spelled_count h.2 p (omega arith) h.6 in
    rw (h.3, x, y, w) refl
point_words_line ws n a (Substation f p) k h =
    let x = spelled_coordinate h.0 a.x (small_coordinate a.x a.x_in_range) h.5 in
    let y = spelled_coordinate h.1 a.y (small_coordinate a.y a.y_in_range) h.6 in
    let v = spelled_count h.2 f (omega arith) h.7 in
    let w = spelled_count h.3 p (omega arith) h.8 in
    rw (h.4, x, y, v, w) refl
point_words_line ws n a Bend k h =
    let x = spelled_coordinate h.0 a.x (small_coordinate a.x a.x_in_range) h.3 in
    let y = spelled_coordinate h.1 a.y (small_coordinate a.y a.y_in_range) h.4 in
    rw (h.2, x, y) refl

-- the words of an obstacle are its line
obstacle_words_line : (ws : List (List ℕ)) (w : List ℕ) (n : ℕ) → n ≤ 1024 → ws ≡ codes "obstacle" ∷ w ∷ [] → w ≡ spelling (pos n) → line ws ≡ line (codes "obstacle" ∷ decimal n ∷ [])
obstacle_words_line ws w n h e r = rw (e, spelled_count w n (omega arith) r) refl

-- the words of a corner are its line
corner_words_line : (ws : List (List ℕ)) (u v : List ℕ) (c : Place) → ws ≡ codes "corner" ∷ u ∷ v ∷ [] → u ≡ spelling c.x → v ≡ spelling c.y → line ws ≡ corner_line c
corner_words_line ws u v c e r s = rw (e, spelled_coordinate u c.x (small_coordinate c.x c.x_in_range) r, spelled_coordinate v c.y (small_coordinate c.y c.y_in_range) s) refl

-- the words of a pair rule are its line
pair_words_line : (ws : List (List ℕ)) (s : Site) (p : Pair) (a b : List ℕ) (rule : PairRule) → p.rule ≡ rule → IsPairRule rule → name_of s p.a ≡ a → name_of s p.b ≡ b → HasPairWords ws a b (raw_rule rule) → line ws ≡ pair_line s p
pair_words_line ws s p a b (Charge amount) same k e f h =
    let w = spelled_count h.0 amount (omega arith) h.2 in
    rw (h.1, w, same, e, f) refl
pair_words_line ws s p a b Closed same k e f h = rw (h, same, e, f) refl

-- each good item but the end goes on with its line
item_step : (d f : Draft) (item : RawItem) (ws : List (List ℕ)) → IsDraft d → IsDraft f → Tidy d → IsGood d item → Adds d item f → HasWords d.site.version ws item → item ≢ TheEnd → Step d f (line ws)
item_step d f (AVersion v) ws draft later tidy good adds says other =
    let stage = eqb-true d.stage 0 (stands d (AVersion v) good) in
    let P : Draft → Type 0 = λ g. Step d g (line ws) in
    let R : Option ℤ → Type 0 = λ n. Reads says.0 n in
    subst P (sym adds.2) (version_step d adds.0 (line ws) tidy stage (ap line says.1 ∙ version_text adds.0 (version_word adds.0) says.0 (subst R adds.1 says.2)))
item_step d f (AMode m) ws draft later tidy good adds says other =
    let stage = eqb-true d.stage 1 (stands d (AMode m) good) in
    let P : Draft → Type 0 = λ g. Step d g (line ws) in
    let R : Option Mode → Type 0 = λ n. NamesMode says.0 n in
    let named : says.0 ≡ mode_word adds.0 = subst R adds.1 says.2 in
    subst P (sym adds.2) (mode_step d adds.0 (line ws) draft tidy stage (ap line says.1 ∙ ap (λ w. line (codes "mode" ∷ w ∷ [])) named))
item_step d f (AType capacity price loss) ws draft later tidy good adds says other =
    let stage = eqb-true d.stage 2 (stands d (AType capacity price loss) good) in
    let t = adds.0 in
    let P : Draft → Type 0 = λ g. Step d g (line ws) in
    let D : Draft → Type 0 = IsDraft in
    let same : AType capacity price loss ≡ item_of_type t = (let a = adds.1 in let b = adds.2 in let c = adds.3 in cc) in
    let H : RawItem → Type 0 = λ i. HasWords d.site.version ws i in
    subst P (sym adds.4) (type_step d t (line ws) draft tidy stage (type_words_line d.site.version ws t (last_of (IsCableType d.site.version) d.site.types t (subst D adds.4 later).types.each) (subst H same says)))
item_step d f (APoint name x y kind) ws draft later tidy good adds says other =
    let may = and_parts (is_settled d) (nat_le d.stage 3) (stands d (APoint name x y kind) good) in
    let p = adds.0 in
    let P : Draft → Type 0 = λ g. Step d g (line ws) in
    let D : Draft → Type 0 = IsDraft in
    let same : APoint name x y kind ≡ item_of_point p = (let a = adds.1 in let b = adds.2.x_is in let c = adds.2.y_is in let k = adds.3 in cc) in
    let H : RawItem → Type 0 = λ i. HasWords d.site.version ws i in
    subst P (sym adds.4) (point_step d p (line ws) draft tidy (some_stage d draft may.0) (leb-true d.stage 3 may.1) (settled d may.0)
    (point_words_line ws p.name p.at p.kind (last_of (λ q. IsKind q.kind) d.site.points p (subst D adds.4 later).points.kinds) (subst H same says)))
item_step d f (AnObstacle k) ws draft later tidy good adds says other =
    let may = and_parts (is_settled d) (nat_le d.stage 4) (stands d (AnObstacle k) good) in
    let n = adds.0 in
    let P : Draft → Type 0 = λ g. Step d g (line ws) in
    let D : Draft → Type 0 = IsDraft in
    let R : Option ℤ → Type 0 = λ m. Reads says.0 m in
    let there = subst D adds.2 later in
    subst P (sym adds.2) (obstacle_step d n (line ws) draft tidy (some_stage d draft may.0) (leb-true d.stage 4 may.1) (settled d may.0) (some_corner d k n good adds.1)
    (obstacle_words_line ws says.0 n (let c = there.obstacles.corners_count in omega arith) says.1 (subst R adds.1 says.2)))
item_step d f (ACorner x y) ws draft later tidy good adds says other =
    let may = and_parts (d.stage == 4) (nat_le 1 d.missing) (stands d (ACorner x y) good) in
    let c = adds.0 in
    let P : Draft → Type 0 = λ g. Step d g (line ws) in
    let R : Option ℤ → Type 0 = λ m. Reads says.0 m in
    let S : Option ℤ → Type 0 = λ m. Reads says.1 m in
    subst P (sym adds.2) (corner_step d c d.missing (line ws) refl draft tidy (eqb-true d.stage 4 may.0) (leb-true 1 d.missing may.1)
    (corner_words_line ws says.0 says.1 c says.2 (subst R adds.1.x_is says.3) (subst S adds.1.y_is says.4)))
item_step d f (APair a b rule) ws draft later tidy good adds says other =
    let may = and_parts (is_settled d) (nat_le d.stage 5) (stands d (APair a b rule) good) in
    let p = adds.0 in
    let P : Draft → Type 0 = λ g. Step d g (line ws) in
    let D : Draft → Type 0 = IsDraft in
    let H : RawRule → Type 0 = λ r. HasPairWords ws a b r in
    let kept = last_of (IsPair d.site.points) d.site.pairs p (subst D adds.6 later).pairs.each in
    subst P (sym adds.6) (pair_step d p (line ws) draft tidy (some_stage d draft may.0) (settled d may.0)
    (pair_words_line ws d.site p a b p.rule refl kept.rule adds.3 adds.4 (subst H adds.5 says)))
item_step d f TheEnd ws draft later tidy good adds says other = absurd (other refl)
item_step d f Misshapen ws draft later tidy good adds says other = absurd adds
item_step d f Stray ws draft later tidy good adds says other = absurd adds
item_step d f Unended ws draft later tidy good adds says other = absurd adds
item_step d f Missing ws draft later tidy good adds says other = absurd adds
item_step d f Overlong ws draft later tidy good adds says other = absurd adds

-- a step from before the end stays before it, but for the end
stays : (d f : Draft) (item : RawItem) → d.stage ≤ 5 → Adds d item f → item ≢ TheEnd → f.stage ≤ 5
stays d f (AVersion v) h adds other = let e = ap (λ (g : Draft). g.stage) adds.2 in omega arith
stays d f (AMode m) h adds other = let e = ap (λ (g : Draft). g.stage) adds.2 in omega arith
stays d f (AType c p l) h adds other = let e = ap (λ (g : Draft). g.stage) adds.4 in omega arith
stays d f (APoint n x y k) h adds other = let e = ap (λ (g : Draft). g.stage) adds.4 in omega arith
stays d f (AnObstacle k) h adds other = let e = ap (λ (g : Draft). g.stage) adds.2 in omega arith
stays d f (ACorner x y) h adds other = let e = ap (λ (g : Draft). g.stage) adds.2 in let k = corner_stage d adds.0 d.missing in omega arith
stays d f (APair a b r) h adds other = let e = ap (λ (g : Draft). g.stage) adds.6 in omega arith
stays d f TheEnd h adds other = absurd (other refl)
stays d f Misshapen h adds other = absurd adds
stays d f Stray h adds other = absurd adds
stays d f Unended h adds other = absurd adds
stays d f Missing h adds other = absurd adds
stays d f Overlong h adds other = absurd adds

-- a type of a line fits its version
fits : (d : Draft) (item : RawItem) (ws : List (List ℕ)) → HasWords d.site.version ws item → FitsVersion d item
fits d (AType c p l) ws h = by_version d.site.version h
  where
    by_version : (v : Version) → HasTypeWords v ws c p l → v ≡ One → l ≡ Some (pos 0)
    by_version One k e = k.5
    by_version Two k e = absurd (cc)
fits d (AVersion v) ws h = tt
fits d (AMode m) ws h = tt
fits d (APoint n x y k) ws h = tt
fits d (AnObstacle k) ws h = tt
fits d (ACorner x y) ws h = tt
fits d (APair a b r) ws h = tt
fits d TheEnd ws h = tt
fits d Misshapen ws h = tt
fits d Stray ws h = tt
fits d Unended ws h = tt
fits d Missing ws h = tt
fits d Overlong ws h = tt

-- whether an item is the end
is_end : (item : RawItem) → (item ≡ TheEnd) ⊎ (item ≢ TheEnd)
is_end (AVersion v) = inr (λ e. cc)
is_end (AMode m) = inr (λ e. cc)
is_end (AType c p l) = inr (λ e. cc)
is_end (APoint n x y k) = inr (λ e. cc)
is_end (AnObstacle k) = inr (λ e. cc)
is_end (ACorner x y) = inr (λ e. cc)
is_end (APair a b r) = inr (λ e. cc)
is_end TheEnd = inl refl
is_end Misshapen = inr (λ e. cc)
is_end Stray = inr (λ e. cc)
is_end Unended = inr (λ e. cc)
is_end Missing = inr (λ e. cc)
is_end Overlong = inr (λ e. cc)

-- the words of a good item, and its line in front of what is left
record Line (version : Version) (bytes : List ℕ) (item : RawItem) (after : List ℕ) : Type 0 where
  ws : List (List ℕ)
  says : HasWords version ws item
  bytes_are : bytes ≡ line ws ++ after

line_at : (d f : Draft) (bytes after : List ℕ) (item : RawItem) → IsItemAt d.site.version bytes item after → Adds d item f → Line d.site.version bytes item after
line_at d f bytes after item at adds = by_piece at.piece at.next at.item_is
  where
    not_it : (other : RawItem) → item ≡ other → (Adds d other f → ⊥) → Line d.site.version bytes item after
    not_it other e no_way = let P : RawItem → Type 0 = λ i. Adds d i f in absurd (no_way (subst P e adds))

    by_piece : (piece : Piece) → IsNext bytes piece after → IsItemOf d.site.version piece item → Line d.site.version bytes item after
    by_piece (Whole text) next (inl l) = record { ws = l.ws; says = l.says; bytes_are = next.0 ∙ ap (λ t. t ++ 10 ∷ after) l.text_is ∙ sym (append_assoc (words l.ws) (10 ∷ []) after) }
    by_piece (Whole text) next (inr s) = not_it Stray s.0 (λ a. a)
    by_piece LongLine next s = not_it Overlong s (λ a. a)
    by_piece CutLine next s = not_it Unended s (λ a. a)
    by_piece NoLine next s = not_it Missing s (λ a. a)

-- what stays true of the site so far with a good item before the end
pub record GoesOn (d : Draft) : Type 0 where
  pub draft : IsDraft d
  pub tidy : Tidy d
  pub before_end : d.stage ≤ 5

pub goes_on : (d f : Draft) (bytes after : List ℕ) (item : RawItem) → GoesOn d → IsItemAt d.site.version bytes item after → IsGood d item → Adds d item f → item ≢ TheEnd → GoesOn f
goes_on d f bytes after item h at good adds other =
    let l = line_at d f bytes after item at adds in
    let later = IsDraft-adds d f item h.draft (fits d item l.ws l.says) good adds in
    record { draft = later; tidy = (item_step d f item l.ws h.draft later h.tidy good adds l.says other).tidy; before_end = stays d f item h.before_end adds other }

-- nothing was read yet
pub begins : GoesOn empty_draft
begins = record { draft = IsDraft-empty; tidy = tidy_begin empty_draft (omega arith) refl refl refl; before_end = omega arith }

-- nothing good follows the end
ended : (d f : Draft) (item : RawItem) → d.stage ≡ 6 → IsGood d item → Adds d item f → ⊥
ended d f (AVersion v) six good adds = let s = eqb-true d.stage 0 (stands d (AVersion v) good) in omega arith
ended d f (AMode m) six good adds = let s = eqb-true d.stage 1 (stands d (AMode m) good) in omega arith
ended d f (AType c p l) six good adds = let s = eqb-true d.stage 2 (stands d (AType c p l) good) in omega arith
ended d f (APoint n x y k) six good adds = let s = leb-true d.stage 3 (and_parts (is_settled d) (nat_le d.stage 3) (stands d (APoint n x y k) good)).1 in omega arith
ended d f (AnObstacle k) six good adds = let s = leb-true d.stage 4 (and_parts (is_settled d) (nat_le d.stage 4) (stands d (AnObstacle k) good)).1 in omega arith
ended d f (ACorner x y) six good adds = let s = eqb-true d.stage 4 (and_parts (d.stage == 4) (nat_le 1 d.missing) (stands d (ACorner x y) good)).0 in omega arith
ended d f (APair a b r) six good adds = let s = leb-true d.stage 5 (and_parts (is_settled d) (nat_le d.stage 5) (stands d (APair a b r) good)).1 in omega arith
ended d f TheEnd six good adds = let s = leb-true d.stage 5 (and_parts (is_settled d) (nat_le d.stage 5) (stands d TheEnd good)).1 in omega arith
ended d f Misshapen six good adds = adds
ended d f Stray six good adds = adds
ended d f Unended six good adds = adds
ended d f Missing six good adds = adds
ended d f Overlong six good adds = adds

nothing_after : (items : List RawItem) (d e : Draft) (bytes rest : List ℕ) → d.stage ≡ 6 → ReadsItems d bytes items e rest → (e ≡ d) × (rest ≡ bytes)
nothing_after [] d e bytes rest six r = r
nothing_after (item ∷ items) d e bytes rest six r = absurd (ended d r.0 item six r.3 r.4)

-- the lines of a site regrouped
regroup_site : (a b t p o r e : List ℕ) → a ++ b ++ t ++ p ++ o ++ r ++ e ≡ (a ++ (b ++ (t ++ (p ++ (o ++ ([] ++ r)))))) ++ e
regroup_site a b t p o r e = simp append_assoc

-- the text so far with the end's line is the site's text
closed_text : (d : Draft) → IsDraft d → Tidy d → is_settled d ≡ true → text_so_far d ++ line (codes "end" ∷ codes "site" ∷ []) ≡ site_lines d.site
closed_text d draft tidy may =
    let none = settled d may in
    ap (λ l. l ++ line (codes "end" ∷ codes "site" ∷ [])) (text_behind d.stage d (some_stage d draft may) ∙ ap (λ l. site_line d.site.version ++ (mode_line d.site.mode ++ l)) (body_closed d.site d.corners d.missing (tidy.closed none) none))
    ∙ sym (regroup_site (site_line d.site.version) (mode_line d.site.mode) (concat (map (type_line d.site.version) d.site.types)) (concat (map point_line d.site.points)) (concat (map obstacle_lines d.site.obstacles)) (concat (map (pair_line d.site) d.site.pairs)) (line (codes "end" ∷ codes "site" ∷ [])))

-- the end of a site
end_text : (d f e : Draft) (bytes after rest : List ℕ) (items : List RawItem) (ws : List (List ℕ)) → IsDraft d → Tidy d → IsDraft f → IsGood d TheEnd → Adds d TheEnd f → HasWords d.site.version ws TheEnd → bytes ≡ line ws ++ after → ReadsItems f after items e rest → (text_so_far d ++ bytes ≡ site_lines e.site ++ rest) × IsValid e.site
end_text d f e bytes after rest items ws draft tidy later good adds says bytes_are further =
    let may = and_parts (is_settled d) (nat_le d.stage 5) (stands d TheEnd good) in
    let six : f.stage ≡ 6 = ap (λ (g : Draft). g.stage) adds in
    let site : f.site ≡ d.site = ap (λ (g : Draft). g.site) adds in
    let done = nothing_after items f e after rest six further in
    let same : e.site ≡ d.site = ap (λ (g : Draft). g.site) done.0 ∙ site in
    let P : Site → Type 0 = IsValid in (
      ap (λ b. text_so_far d ++ b) (bytes_are ∙ ap (λ w. line w ++ after) says) ∙ sym (append_assoc (text_so_far d) (line (codes "end" ∷ codes "site" ∷ [])) after)
          ∙ ap (λ t. t ++ after) (closed_text d draft tidy may.0) ∙ ap (λ s. site_lines s ++ after) (sym same) ∙ ap (λ r. site_lines e.site ++ r) (sym done.1),
      subst P (site ∙ sym same) (IsValid-ended f later six),
    )

-- the text so far and the bytes to come are the text of the site that they lead to, and what is left
reads_text : (items : List RawItem) (d e : Draft) (bytes rest : List ℕ) → IsDraft d → Tidy d → d.stage ≤ 5 → ReadsItems d bytes items e rest → e.stage ≡ 6 → (text_so_far d ++ bytes ≡ site_lines e.site ++ rest) × IsValid e.site
reads_text [] d e bytes rest draft tidy before r six = let s = ap (λ (g : Draft). g.stage) r.0 in absurd (omega arith)
reads_text (item ∷ items) d e bytes rest draft tidy before r six =
    let f = r.0 in
    let after = r.1 in
    let l = line_at d f bytes after item r.2 r.4 in
    let later = IsDraft-adds d f item draft (fits d item l.ws l.says) r.3 r.4 in
    elim (is_end item) [
      | inl end ↦
          let A : RawItem → Type 0 = λ i. Adds d i f in
          let G : RawItem → Type 0 = λ i. IsGood d i in
          let H : RawItem → Type 0 = λ i. HasWords d.site.version l.ws i in
          end_text d f e bytes after rest items l.ws draft tidy later (subst G end r.3) (subst A end r.4) (subst H end l.says) l.bytes_are r.5
      | inr other ↦
          let step = item_step d f item l.ws draft later tidy r.3 r.4 l.says other in
          let further = reads_text items f e after rest later step.tidy (stays d f item before r.4 other) r.5 six in
          (ap (λ b. text_so_far d ++ b) l.bytes_are ∙ sym (append_assoc (text_so_far d) (line l.ws) after) ∙ ap (λ t. t ++ after) (sym step.text) ∙ further.0, further.1)
    ]

-- good items from the beginning to the end are the lines of the valid site that they lead to
pub site_read : (bytes rest : List ℕ) (items : List RawItem) (e : Draft) → ReadsItems empty_draft bytes items e rest → e.stage ≡ 6 → IsSiteAtFront bytes e.site rest
site_read bytes rest items e r six =
    let t = reads_text items empty_draft e bytes rest IsDraft-empty (tidy_begin empty_draft (omega arith) refl refl refl) (omega arith) r six in
    record { valid = t.1; text = t.0 }
