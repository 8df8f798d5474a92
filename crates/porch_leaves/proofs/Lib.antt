mod Chars
